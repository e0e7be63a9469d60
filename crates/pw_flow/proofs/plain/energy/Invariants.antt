use Rattle.std.proofs.Common.{◌≡◌, ℕ, ◌+◌, ◌*◌, ◌^◌, ◌≤◌, Bool, length}
use Rattle.std.specs.Slice.Iter.{windows_rest, windows_size}
use Rattle.pw_flow.specs.Pairs.{pairs_sum}
use Rattle.pw_flow.specs.Plain.{AnswersBy}
use Rattle.pw_flow.proofs.Listed.{pairs_of}
use Rattle.pw_flow.proofs.plain.energy.Given as goal

abbrev pub invariant-loop-pair : goal.invariant-loop-pair
invariant-loop-pair g l = record {
  can_next : (goal.iterator-loop-pair g).can_next l.pair-iterator;
  is_finite : (goal.iterator-loop-pair g).is_finite l.pair-iterator;
  of_two : windows_size l.pair-iterator ≡ 2;
  -- what the pairs so far gave, with what is still to come
  pairs : (asked : ℕ → Bool) → AnswersBy (goal.F-post g l.keeps) asked →
      l.total + pairs_sum asked (pairs_of (windows_rest l.pair-iterator)) ≡ pairs_sum asked (pairs_of l.points);
  -- each pair gives less than 2 ^ 64
  fits : l.total + length (windows_rest l.pair-iterator) * 2 ^ 64 ≤ length l.points * 2 ^ 64;
}
