use Rattle.std.proofs.Common.{◌≡◌, ◌-◌, length}
use Rattle.pw_obis.specs.Coming.{AreLinesUpTo, from_place}
use Rattle.pw_obis.proofs.block.next_place.Given as goal

abbrev pub invariant-loop-at : goal.invariant-loop-at
invariant-loop-at l = AreLinesUpTo l.block l.at l.stop × (from_place l.block l.place ≡ from_place l.block l.at)

abbrev pub decreases-loop-at : goal.decreases-loop-at
decreases-loop-at l = length l.block - l.at
