use Rattle.std.proofs.Common.{take, refl, sym, subst}
use Rattle.pw_store.specs.Waiting.{points_over, with_one}
use Rattle.pw_store.specs.inner.Seconds.{IsNearest}
use Rattle.pw_store.proofs.Waited.{farther_stays, nearer_taken, nearest_more}
use Rattle.pw_store.proofs.waiting.nearest_of.Goals.{then-is_nearer, else-is_nearer}
use Rattle.pw_store.proofs.waiting.nearest_of.Goals as goal

pub loop-point-preserved : goal.loop-point-preserved
loop-point-preserved c points was =
    let at = c.loop-point.point-index in
    let p = c.point-item.result in
    let over = points_over (take at c.args.waiting.now) points in
    let near = c.loop-point.invariant points was in
    nearest_more c.args.waiting.now at p c.point-item.is c.loop-point-test.true c.args.meter c.args.register c.args.side.now points c.if-is_nearer.nearest
    (elim c.if-is_nearer.branch [
      | then-is_nearer w ↦ subst (λ found. IsNearest c.args.side.now (with_one over p c.args.meter.0 c.args.register) found) (sym w.nearest-is)
          (nearer_taken p c.args.meter c.args.register over c.args.side.now c.loop-point.nearest near (w.if-is_nearer.ensures.here refl) (w.if-is_nearer.ensures.nearer refl))
      | else-is_nearer w ↦ subst (λ found. IsNearest c.args.side.now (with_one over p c.args.meter.0 c.args.register) found) (sym w.nearest-is)
          (farther_stays p c.args.meter c.args.register over c.args.side.now c.loop-point.nearest near (λ of. w.if-is_nearer.ensures.farther refl of))
    ])
