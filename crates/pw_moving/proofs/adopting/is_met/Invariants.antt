use Rattle.std.proofs.Common.{take}
use Rattle.pw_moving.specs.inner.Comparing.{AreUnsaid}
use Rattle.pw_moving.proofs.adopting.is_met.Given as goal

abbrev pub invariant-loop-change : goal.invariant-loop-change
invariant-loop-change l = AreUnsaid l.word (record { old = l.old; new = l.new }) (take l.change-index l.changes)
