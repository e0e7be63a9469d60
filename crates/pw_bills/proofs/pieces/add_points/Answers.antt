use Rattle.std.proofs.Common.{◌∙◌, arith, ap, ℕ, take}
use Rattle.std.specs.Slice.Iter.{windows_rest}
use Rattle.pw_bills.proofs.Pairing.{pair-more, pairs-over, rest-rises}
use Rattle.pw_bills.proofs.pieces.add_points.Goals as goal

pub loop-pair-preserved : goal.loop-pair-preserved
loop-pair-preserved c =
    let was = c.loop-pair.invariant in
    let two = was.of_two in
    let step = c.in-Some.ensures.steps in
    let size = step.0 in
    let some = step.1.0 in
    record {
      can_next = omega (arith, size, two);
      is_finite = tt;
      of_two = size ∙ two;
      rising = λ r. rest-rises (windows_rest c.loop-pair.pair-iterator) _ step.1.2 (was.rising r);
      told = λ r. pair-more c.args.place.now.basis.now.office.now c.args.place.now.owners.now c.args.place.now.stretches.now.account c.args.place.now.meter c.args.place.now.register c.args.points.now
          (windows_rest c.loop-pair.pair-iterator) _ c.in-Some.pair.now c.index-pair-0.result c.index-pair-1.result _ _ _
          (omega (arith, some, two)) (step.1.1 ∙ ap (λ (n : ℕ). take n (windows_rest c.loop-pair.pair-iterator)) two) step.1.2
          c.index-pair-0.is c.index-pair-1.is (was.rising r) c.in_ok-add_pair.ensures (was.told r);
    }

pub returns : goal.returns
returns c = λ r.
    let two = c.loop-pair.invariant.of_two in
    let few = c.in-None.ensures.steps.1.0 in
    pairs-over c.args.place.now.basis.now.office.now c.args.place.now.owners.now c.args.place.now.stretches.now.account c.args.place.now.meter c.args.place.now.register c.args.points.now (windows_rest c.loop-pair.pair-iterator) _ _
    (omega (arith, few, two)) (c.loop-pair.invariant.told r)
