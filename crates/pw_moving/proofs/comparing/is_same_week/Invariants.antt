use Rattle.pw_moving.specs.inner.Comparing.{AreSameDays, AreSameHours}
use Rattle.pw_moving.proofs.comparing.is_same_week.Given as goal

abbrev pub invariant-loop-day : goal.invariant-loop-day
invariant-loop-day l = AreSameDays (record { old = l.old; new = l.new }) l.period.0 l.day

abbrev pub invariant-loop-hour : goal.invariant-loop-hour
invariant-loop-hour l = AreSameHours (record { old = l.old; new = l.new }) l.period.0 l.day l.hour
