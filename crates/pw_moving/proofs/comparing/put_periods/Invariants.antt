use Rattle.pw_moving.specs.inner.Comparing.{AreOfLines, Puts}
use Rattle.pw_moving.proofs.comparing.put_periods.Given as goal

abbrev pub invariant-loop-period : goal.invariant-loop-period
invariant-loop-period l = Puts (AreOfLines (record { old = l.old; new = l.new }) 3 l.period) l.initial.changes.items l.changes.items
