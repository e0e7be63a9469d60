use Rattle.std.proofs.Common.{◌≡◌, ◌+◌, ◌≤◌, length}
use Rattle.pw_model.specs.Counting.{standing}
use Rattle.pw_model.specs.Lists.{IsInOrder}
use Rattle.pw_model.specs.Same.{entry_order}
use Rattle.pw_parts.proofs.Groups.{SoFar}
use Rattle.pw_parts.proofs.counting.alone_among.Given as goal

abbrev pub invariant-loop-first : goal.invariant-loop-first
invariant-loop-first l = record {
  so_far : IsInOrder entry_order l.records → standing l.records ≡ l.records → SoFar l.records l.rest l.counted.items;
  few : length l.counted.items + length l.rest ≤ length l.records;
}

abbrev pub decreases-loop-first : goal.decreases-loop-first
decreases-loop-first l = length l.rest
