-- The seconds of points. It serves the proofs of the plain programs.
-- (Definitions of this project.)
use Rattle.std.specs.Prelude.{ℕ, List, map}
use Rattle.pw_flow.specs.declared.plain.Point.{Point}

-- the seconds of the points
abbrev pub times_of : List Point → List ℕ
times_of points = map (λ p. p.at) points
