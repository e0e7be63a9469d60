use Rattle.std.proofs.Common.{take}
use Rattle.pw_store.specs.inner.Seconds.{NoneWithin}
use Rattle.pw_store.proofs.waiting.any_within.Given as goal

abbrev pub invariant-loop-point : goal.invariant-loop-point
invariant-loop-point l = NoneWithin (take l.point-index l.waiting) l.meter.0 l.register l.from l.to
