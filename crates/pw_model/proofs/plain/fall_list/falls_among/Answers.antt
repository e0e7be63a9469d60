use Rattle.std.proofs.Common.{ap, ◌∙◌}
use Rattle.pw_model.proofs.PlainFalls.{falls-push, falls-pass, falls-end}
use Rattle.pw_model.proofs.plain.fall_list.falls_among.Goals as goal
use Rattle.pw_model.proofs.plain.fall_list.falls_among.Goals.{in-Some+in_ok-push, in_default}

pub loop-index-preserved : goal.loop-index-preserved
loop-index-preserved c =
    elim c.match-fall_from.branch [
      | in-Some+in_ok-push w ↦
          falls-push c.args.in_order.now c.loop-index.index w.in-Some.fall c.loop-index.falls.items c.match-fall_from.falls.items c.requires.rising w.in-Some.ensures.some
          (ap (λ v. v.items) w.falls-is ∙ w.in_ok-push.ensures.items) c.loop-index.invariant
      | in_default w ↦ rw w.falls-is (falls-pass c.args.in_order.now c.loop-index.index c.loop-index.falls.items c.loop-index-test.true w.in_default.ensures.none c.loop-index.invariant)
    ]

pub returns : goal.returns
returns c = falls-end c.args.in_order.now c.loop-index.index c.loop-index.falls.items c.requires.rising c.loop-index-test.false c.loop-index.invariant
