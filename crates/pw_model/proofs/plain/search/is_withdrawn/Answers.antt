use Rattle.std.proofs.Common.{sym, ◌∙◌}
use Rattle.pw_model.proofs.Places.{at-told}
use Rattle.pw_model.proofs.Found.{withdrawn-one, withdrawn-next}
use Rattle.pw_model.proofs.plain.search.is_withdrawn.Goals as goal

pub returns-then-withdraws : goal.returns-then-withdraws
returns-then-withdraws c =
    let at = at-told c.args.entries.now c.loop-other.other-index c.other-item.result c.loop-other-test.true c.other-item.is in
    sym (withdrawn-one c.args.entries.now c.loop-other.other-index c.args.entry.now c.other-item.result at (sym c.withdraws.ensures ∙ c.if-withdraws.true))

pub loop-other-preserved : goal.loop-other-preserved
loop-other-preserved c =
    let at = at-told c.args.entries.now c.loop-other.other-index c.other-item.result c.loop-other-test.true c.other-item.is in
    withdrawn-next c.args.entries.now c.loop-other.other-index c.args.entry.now c.other-item.result at c.loop-other.invariant (sym c.withdraws.ensures ∙ c.if-withdraws.false)
