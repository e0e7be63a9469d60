use Rattle.std.proofs.Common.{◌≡◌, arith, rules}
use Rattle.std.specs.Slice.Iter.{windows_rest}
use Rattle.pw_flow.specs.Pairs.{pairs_sum}
use Rattle.pw_flow.proofs.Listed.{pairs_of, energy-points, windows-ended}
use Rattle.pw_flow.proofs.plain.energy.Goals as goal

pub returns : goal.returns
returns g c = λ asked end answers within.
    let so_far = c.loop-pair.invariant.pairs asked answers in
    let ended : pairs_sum asked (pairs_of (windows_rest c.loop-pair.pair-iterator)) ≡ 0 = windows-ended asked (windows_rest c.loop-pair.pair-iterator) (omega (arith, c.in-None.ensures.steps.1.0)) in
    let whole = energy-points asked c.args.points.now end c.requires.rising within in
    omega (arith, so_far, whole)

pub loop-pair-preserved : goal.loop-pair-preserved
loop-pair-preserved g c = search rules depth 3 fits 300
