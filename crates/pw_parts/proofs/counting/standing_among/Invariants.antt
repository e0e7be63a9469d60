use Rattle.std.proofs.Common.{◌≡◌, ◌≤◌, length, take}
use Rattle.pw_model.specs.Lists.{IsInOrder}
use Rattle.pw_model.specs.Same.{entry_order}
use Rattle.pw_model.specs.Counting.{standing_among}
use Rattle.pw_parts.proofs.counting.standing_among.Given as goal

abbrev pub invariant-loop-entry : goal.invariant-loop-entry
invariant-loop-entry l = record {
  so_far : IsInOrder entry_order l.records → l.all.items ≡ standing_among l.records (take l.entry-index l.records);
  few : length l.all.items ≤ l.entry-index;
}
