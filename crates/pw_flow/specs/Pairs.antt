-- The pairs of a list of points, in order.
-- (Definitions of this project.)
use Rattle.std.specs.Prelude.{◌≡◌, ℕ, suc, ◌+◌, ◌-◌, ◌<◌, ◌≤◌, Option, Some, None, List, [], ◌∷◌, Bool}
use Rattle.pw_flow.specs.Time.{last, next}
use Rattle.pw_flow.specs.Flow.{AreNeighbours}
use Rattle.pw_flow.specs.Energy.{cell}

-- what neighbouring pairs of a list give together
abbrev pub pairs_sum : (ℕ → Bool) → List (ℕ × ℕ) → ℕ
pairs_sum keeps [] = 0
pairs_sum keeps (a ∷ []) = 0
pairs_sum keeps (a ∷ b ∷ ps) = cell keeps a b + pairs_sum keeps (b ∷ ps)

-- the same, where both points are there
abbrev pub cell_between : (ℕ → Bool) → Option (ℕ × ℕ) → Option (ℕ × ℕ) → ℕ
cell_between keeps (Some a) (Some b) = cell keeps a b
cell_between keeps (Some a) None = 0
cell_between keeps None b = 0

-- the list has the points from a second on, in order, all before end
abbrev pub ListsPoints : (ℕ → Option ℕ) → ℕ → ℕ → List (ℕ × ℕ) → Type 0
ListsPoints points end from [] = (s : ℕ) → from ≤ s → points s ≡ None
ListsPoints points end from (a ∷ ps) = (from ≤ a.0) × (a.0 < end) × (points a.0 ≡ Some a.1)
    × ((s : ℕ) → from ≤ s → s < a.0 → points s ≡ None) × ListsPoints points end (suc a.0) ps

-- each point of the list is the next neighbour of the one before it
abbrev pub Chain : (ℕ → Option ℕ) → ℕ × ℕ → List (ℕ × ℕ) → Type 0
Chain points a [] = points a.0 ≡ Some a.1
Chain points a (b ∷ ps) = AreNeighbours points a.0 a.1 b.0 b.1 × Chain points b ps

abbrev pub last_of : ℕ × ℕ → List (ℕ × ℕ) → ℕ × ℕ
last_of a [] = a
last_of a (b ∷ ps) = last_of b ps

-- new is old with one more point, value u at second z
pub record IsMore (old new : ℕ → Option ℕ) (z u : ℕ) : Type 0 where
  pub free : old z ≡ None
  pub here : new z ≡ Some u
  pub same : (s : ℕ) → (s ≡ z → ⊥) → old s ≡ new s

-- below is the latest point at z or before it, above the earliest behind it
pub record StandAround (points : ℕ → Option ℕ) (end z : ℕ) (below above : Option (ℕ × ℕ)) : Type 0 where
  pub inside : z < end
  pub last_is : last points z ≡ below
  pub next_is : next points z (end - z) ≡ above
