use Rattle.std.proofs.Common.{ap, sym, ◌∙◌, inl, inr, arith}
use Rattle.pw_model.proofs.Places.{at-told, take-all}
use Rattle.pw_model.proofs.Payments.{cents_among, cents-all, cents-skip, cents-add, pays-told, pays-not}
use Rattle.pw_model.proofs.plain.payments.topped_up.Goals as goal
use Rattle.pw_model.proofs.plain.payments.topped_up.Goals.{then-cents_in-gt0+then-not-has_payment, else-cents_in-gt0, else-cents_in-gt0-via-then-cents_in-gt0+else-not-has_payment, else-cents_in-gt0-via-else-cents_in-gt0}

pub overflow_add-total : goal.overflow_add-total
overflow_add-total c = omega (arith, c.loop-index.invariant.bound, c.from-total.ensures, c.cents_at.type_inv)

pub loop-index-preserved : goal.loop-index-preserved
loop-index-preserved c =
    let at = at-told c.args.entries.now c.loop-index.index c.index-entries-index.result c.loop-index-test.true c.index-entries-index.is in
    let before = c.loop-index.invariant.sum in
    elim c.if-cents_in-gt0.branch [
      | then-cents_in-gt0+then-not-has_payment w ↦ (
          let pays = pays-told c.args.account.0 c.index-entries-index.result c.cents_in.result c.cents_in.ensures (omega (arith, w.if-cents_in-gt0.true)) in
          let more = cents-add c.args.entries.now c.args.account.0 c.loop-index.index c.index-entries-index.result at pays (sym w.has_payment.ensures ∙ w.if-not-has_payment.true) in
          record {
            sum = omega (arith, w.total-is, w.from-total.ensures, w.cents_at.ensures, before, more);
            bound = omega (arith, w.total-is, w.from-total.ensures, w.cents_at.type_inv, c.loop-index.invariant.bound);
          })
      | else-cents_in-gt0 w ↦ (
          let same = cents-skip c.args.entries.now c.args.account.0 c.loop-index.index c.index-entries-index.result at (elim w.else-cents_in-gt0.branch [
            | else-cents_in-gt0-via-then-cents_in-gt0+else-not-has_payment v ↦ inr (sym v.has_payment.ensures ∙ v.if-not-has_payment.false)
            | else-cents_in-gt0-via-else-cents_in-gt0 v ↦ inl (pays-not c.args.account.0 c.index-entries-index.result c.cents_in.result c.cents_in.ensures (omega (arith, v.if-cents_in-gt0.false)))
          ]) in
          record {
            sum = omega (arith, w.total-is, before, same);
            bound = omega (arith, w.total-is, c.loop-index.invariant.bound);
          })
    ]

pub returns : goal.returns
returns c =
    c.loop-index.invariant.sum ∙ ap (cents_among c.args.entries.now c.args.account.0) (take-all c.args.entries.now c.loop-index.index c.loop-index-test.false)
    ∙ cents-all c.args.entries.now c.args.account.0
