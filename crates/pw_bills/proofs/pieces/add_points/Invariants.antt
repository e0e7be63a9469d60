use Rattle.std.proofs.Common.{◌≡◌, ◌++◌, List}
use Rattle.std.specs.Slice.Iter.{windows_rest, windows_size}
use Rattle.pw_model.specs.Lists.{IsInOrder}
use Rattle.pw_model.specs.Seconds.{by_second}
use Rattle.pw_bills.specs.declared.reasons.WhyPiece.{WhyPiece}
use Rattle.pw_bills.specs.inner.Rows.{GivenByPoints}
use Rattle.pw_bills.proofs.pieces.add_points.Given as goal

abbrev pub invariant-loop-pair : goal.invariant-loop-pair
invariant-loop-pair l = record {
  can_next : (goal.iterator-loop-pair).can_next l.pair-iterator;
  is_finite : (goal.iterator-loop-pair).is_finite l.pair-iterator;
  of_two : windows_size l.pair-iterator ≡ 2;
  rising : IsInOrder by_second l.points → IsInOrder by_second (windows_rest l.pair-iterator);
  -- what the pairs so far gave, before all that those still to come give
  told : IsInOrder by_second l.points →
      (given : List WhyPiece) × (l.rows.items ≡ l.initial.rows.items ++ given)
      × ((more : List WhyPiece) → GivenByPoints l.place.basis.now.office.now l.place.owners.now l.place.stretches.now.account l.place.meter l.place.register (windows_rest l.pair-iterator) more → GivenByPoints l.place.basis.now.office.now l.place.owners.now l.place.stretches.now.account l.place.meter l.place.register l.points (given ++ more));
}
