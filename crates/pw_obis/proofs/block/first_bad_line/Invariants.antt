use Rattle.std.proofs.Common.{◌≡◌, ◌-◌, ◌≤◌, length}
use Rattle.pw_obis.specs.Coming.{from_place}
use Rattle.pw_obis.proofs.block.first_bad_line.Given as goal

abbrev pub invariant-loop-at : goal.invariant-loop-at
invariant-loop-at l = (l.at ≤ length l.block) × ((from_place l.block 0).refusal ≡ (from_place l.block l.at).refusal)

abbrev pub decreases-loop-at : goal.decreases-loop-at
decreases-loop-at l = length l.block - l.at
