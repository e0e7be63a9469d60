use Rattle.std.proofs.Common.{ℕ, ◌-◌, ◌<◌, ◌≤◌, length, get_or}
use Rattle.pw_frame.specs.Frame.{IsCharacter}
use Rattle.pw_frame.proofs.head.header_end.Given as goal

abbrev pub invariant-loop-end : goal.invariant-loop-end
invariant-loop-end l = (1 ≤ l.end) × (l.end ≤ length l.rest) × ((i : ℕ) → 1 ≤ i → i < l.end → IsCharacter (get_or l.rest i 0))

abbrev pub decreases-loop-end : goal.decreases-loop-end
decreases-loop-end l = length l.rest - l.end
