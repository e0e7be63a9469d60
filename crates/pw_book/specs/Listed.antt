-- Points, with one before them that may be there or not.
-- (Definitions of this project.)
use Rattle.std.specs.Prelude.{ℕ, Option, Some, None, List, ◌∷◌}

-- before some points another one, where it is there
abbrev pub point_listed : Option (ℕ × ℕ) → List (ℕ × ℕ) → List (ℕ × ℕ)
point_listed None points = points
point_listed (Some a) points = a ∷ points
