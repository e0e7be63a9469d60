use Rattle.std.proofs.Common.{take}
use Rattle.pw_moving.specs.inner.Comparing.{AreAdopted}
use Rattle.pw_moving.proofs.adopting.adopts.Given as goal

abbrev pub invariant-loop-change : goal.invariant-loop-change
invariant-loop-change l = AreAdopted l.words l.last (record { old = l.old; new = l.new }) (take l.change-index l.changes)
