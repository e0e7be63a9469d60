use Rattle.std.proofs.Common.{refl}
use Rattle.pw_store.proofs.Waited.{within_more}
use Rattle.pw_store.proofs.waiting.any_within.Goals as goal

pub loop-point-preserved : goal.loop-point-preserved
loop-point-preserved c =
    within_more c.args.waiting.now c.loop-point.point-index c.point-item.result c.point-item.is c.loop-point-test.true c.args.meter c.args.register c.args.from c.args.to (c.if-is_within.ensures refl) c.loop-point.invariant
