use Rattle.std.proofs.Common.{sym, ◌∙◌, arith}
use Rattle.std.proofs.lemmas.Bool.{true≢false}
use Rattle.pw_model.proofs.Places.{at-told}
use Rattle.pw_model.proofs.Payments.{key-next, key-here, pays-told, pays-not}
use Rattle.pw_model.proofs.plain.payments.has_payment.Goals as goal
use Rattle.pw_model.proofs.plain.payments.has_payment.Goals.{else-cents_in-gt0-via-then-cents_in-gt0+else-is_same_key, else-cents_in-gt0-via-else-cents_in-gt0}

pub returns-then-is_same_key : goal.returns-then-is_same_key
returns-then-is_same_key c =
    let at = at-told c.args.entries.now c.loop-entry.entry-index c.entry-item.result c.loop-entry-test.true c.entry-item.is in
    sym (key-here c.args.entries.now c.args.account.0 c.loop-entry.entry-index c.entry-item.result c.args.key.now at
    (pays-told c.args.account.0 c.entry-item.result c.cents_in.result c.cents_in.ensures (omega (arith, c.if-cents_in-gt0.true))) (sym c.is_same_key.ensures ∙ c.if-is_same_key.true))

pub loop-entry-preserved : goal.loop-entry-preserved
loop-entry-preserved c =
    let at = at-told c.args.entries.now c.loop-entry.entry-index c.entry-item.result c.loop-entry-test.true c.entry-item.is in
    key-next c.args.entries.now c.args.account.0 c.loop-entry.entry-index c.entry-item.result c.args.key.now at c.loop-entry.invariant (λ y t. elim c.else-cents_in-gt0.branch [
      | else-cents_in-gt0-via-then-cents_in-gt0+else-is_same_key w ↦ true≢false (sym t ∙ sym w.is_same_key.ensures ∙ w.if-is_same_key.false)
      | else-cents_in-gt0-via-else-cents_in-gt0 w ↦ true≢false (sym y ∙ pays-not c.args.account.0 c.entry-item.result c.cents_in.result c.cents_in.ensures (omega (arith, w.if-cents_in-gt0.false)))
    ])
