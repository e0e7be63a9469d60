use Rattle.pw_moving.specs.inner.Comparing.{HasNotMoved}
use Rattle.pw_moving.proofs.comparing.moved_to.Given as goal

abbrev pub invariant-loop-to : goal.invariant-loop-to
invariant-loop-to l = HasNotMoved (record { old = l.old; new = l.new }) l.list l.from l.to
