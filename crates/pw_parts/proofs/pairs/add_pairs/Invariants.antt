use Rattle.std.proofs.Common.{◌≡◌, ◌+◌, ◌*◌, ◌≤◌, length}
use Rattle.std.specs.Slice.Iter.{windows_rest, windows_size}
use Rattle.pw_obis.specs.declared.energy.TheConstants.{LARGEST_WATT_HOURS}
use Rattle.pw_model.specs.declared.records.TotalKey.{TotalKey}
use Rattle.pw_model.specs.Lists.{IsInOrder}
use Rattle.pw_model.specs.Seconds.{by_second}
use Rattle.pw_parts.specs.Changes.{gathered, other_side, pairs_for}
use Rattle.pw_parts.proofs.pairs.add_pairs.Given as goal

abbrev pub invariant-loop-pair : goal.invariant-loop-pair
invariant-loop-pair l = record {
  can_next : (goal.iterator-loop-pair).can_next l.pair-iterator;
  is_finite : (goal.iterator-loop-pair).is_finite l.pair-iterator;
  of_two : windows_size l.pair-iterator ≡ 2;
  rising : IsInOrder by_second l.points → IsInOrder by_second (windows_rest l.pair-iterator);
  -- what the pairs so far gave, with what is still to come
  told : IsInOrder by_second l.points → (k : TotalKey) →
      gathered l.side l.changes.rows k + pairs_for l.office l.owners l.direction (windows_rest l.pair-iterator) k ≡ gathered l.side l.initial.changes.rows k + pairs_for l.office l.owners l.direction l.points k;
  other : (k : TotalKey) → gathered (other_side l.side) l.changes.rows k ≡ gathered (other_side l.side) l.initial.changes.rows k;
  all : (k : TotalKey) → gathered l.side l.changes.rows k + length (windows_rest l.pair-iterator) * LARGEST_WATT_HOURS ≤ gathered l.side l.initial.changes.rows k + length l.points * LARGEST_WATT_HOURS;
}
