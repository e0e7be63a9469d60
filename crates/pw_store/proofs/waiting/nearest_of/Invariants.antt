use Rattle.std.proofs.Common.{take}
use Rattle.pw_store.specs.Waiting.{Points, points_over}
use Rattle.pw_store.specs.inner.Seconds.{IsNearest}
use Rattle.pw_store.proofs.waiting.nearest_of.Given as goal

abbrev pub invariant-loop-point : goal.invariant-loop-point
invariant-loop-point l =
    (points : Points) → IsNearest l.side (points l.meter.0 l.register) l.fn.written
    → IsNearest l.side (points_over (take l.point-index l.waiting) points l.meter.0 l.register) l.nearest
