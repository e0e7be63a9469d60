use Rattle.std.proofs.Common.{◌≡◌, All, take}
use Rattle.pw_time.specs.Instants.{IsInstant}
use Rattle.pw_model.proofs.PlainPoints.{counted}
use Rattle.pw_model.proofs.plain.points.points_of.Given as goal

abbrev pub invariant-loop-row : goal.invariant-loop-row
invariant-loop-row l = record {
  points : l.points.items ≡ counted (take l.row-index l.row-items);
  instants : All (λ p. IsInstant p.at) l.points.items;
}
