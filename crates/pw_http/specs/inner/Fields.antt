-- The value of the first header. It serves `src/audience.rt`.
use Rattle.std.specs.Prelude.{ℕ, List, [], ◌∷◌}

abbrev pub first_value : List (List ℕ × List ℕ) → List ℕ
first_value [] = []
first_value (f ∷ fs) = f.1
