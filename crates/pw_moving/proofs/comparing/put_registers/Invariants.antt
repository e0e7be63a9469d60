use Rattle.pw_moving.specs.inner.Comparing.{AreOfRegisters, Puts}
use Rattle.pw_moving.proofs.comparing.put_registers.Given as goal

abbrev pub invariant-loop-register : goal.invariant-loop-register
invariant-loop-register l = Puts (AreOfRegisters (record { old = l.old; new = l.new }) l.meter.0 l.register-index) l.initial.changes.items l.changes.items
