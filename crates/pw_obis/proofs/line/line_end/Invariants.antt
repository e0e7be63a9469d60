use Rattle.std.proofs.Common.{◌-◌, ◌≤◌, length}
use Rattle.pw_obis.specs.lemmas.Places.{Ahead}
use Rattle.pw_obis.proofs.line.line_end.Given as goal

abbrev pub invariant-loop-at : goal.invariant-loop-at
invariant-loop-at l = (l.from ≤ l.at) × (l.at ≤ length l.block) × Ahead l.block l.from l.at

abbrev pub decreases-loop-at : goal.decreases-loop-at
decreases-loop-at l = length l.block - l.at
