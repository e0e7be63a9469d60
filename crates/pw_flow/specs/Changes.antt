-- Laws on pairs, and on what one more point or another owner changes. They serve proofs above this crate, and are the
-- contracts of functions of the module `laws`.
use Rattle.std.specs.Prelude.{◌≡◌, ℕ, ◌+◌, ◌-◌, ◌*◌, ◌<◌, ◌≤◌, Option, Some, None, List, ◌∷◌, length, All, Bool, true, false}
use Rattle.pw_flow.specs.Time.{IsLast, IsNext, last, next, sum_over}
use Rattle.pw_flow.specs.Flow.{AreNeighbours, level, pair_flow, flow}
use Rattle.pw_flow.specs.Energy.{kept, register_energy, cell}
use Rattle.pw_flow.specs.Pairs.{StandAround, IsMore, last_of, Chain, ListsPoints, cell_between, pairs_sum}

-- the energy is what the neighbouring pairs of the list of points give
abbrev pub EnergyOfPairs : Type 0
EnergyOfPairs = (keeps : ℕ → Bool) (points : ℕ → Option ℕ) (end : ℕ) (ps : List (ℕ × ℕ)) →
    ListsPoints points end 0 ps → register_energy keeps points end ≡ pairs_sum keeps ps

-- so it is at most the largest value times the number of points
abbrev pub EnergyIsBounded : Type 0
EnergyIsBounded = (keeps : ℕ → Bool) (points : ℕ → Option ℕ) (end : ℕ) (ps : List (ℕ × ℕ)) (most : ℕ) →
    ListsPoints points end 0 ps → All (λ a. a.1 ≤ most) ps → register_energy keeps points end ≤ length ps * most

-- a piece of a pair that doesn't fall gives the difference of the levels at its ends where all its seconds are kept,
-- and nothing where none is
pub record GivesByPiece (keeps : ℕ → Bool) (x w y v p q : ℕ) : Type 0 where
  pub all_kept : ((t : ℕ) → p ≤ t → t < q → keeps t ≡ true) →
      sum_over (kept keeps (pair_flow (x, w) (y, v))) p (q - p) ≡ level x w y v q - level x w y v p
  pub none_kept : ((t : ℕ) → p ≤ t → t < q → keeps t ≡ false) →
      sum_over (kept keeps (pair_flow (x, w) (y, v))) p (q - p) ≡ 0

abbrev pub PieceOfOneKind : Type 0
PieceOfOneKind = (keeps : ℕ → Bool) (x w y v p q : ℕ) → x < y → w ≤ v → p ≤ q → GivesByPiece keeps x w y v p q

-- what a pair gives asks for its own seconds alone, and an energy for those before end
pub record AsksForItsSeconds (old new : ℕ → Bool) : Type 0 where
  pub cells : (x w y v : ℕ) → ((t : ℕ) → x ≤ t → t < y → old t ≡ new t) →
      cell old (x, w) (y, v) ≡ cell new (x, w) (y, v)
  pub energies : (points : ℕ → Option ℕ) (end : ℕ) → ((t : ℕ) → t < end → old t ≡ new t) →
      register_energy old points end ≡ register_energy new points end

abbrev pub SameSecondsSameEnergy : Type 0
SameSecondsSameEnergy = (old new : ℕ → Bool) → AsksForItsSeconds old new

-- one more point brings the cells of its two pairs, and takes that of the pair that it parts;
-- read from right to left, this is one point less
abbrev pub OneMorePoint : Type 0
OneMorePoint = (keeps : ℕ → Bool) (old new : ℕ → Option ℕ) (end z u : ℕ) (below above : Option (ℕ × ℕ)) →
    IsMore old new z u → StandAround old end z below above →
    register_energy keeps new end + cell_between keeps below above
    ≡ register_energy keeps old end + (cell_between keeps below (Some (z, u)) + cell_between keeps (Some (z, u)) above)

-- where other seconds are kept within a window alone, or outside it where nothing flows, only the window's pairs change
abbrev pub OtherWindow : Type 0
OtherWindow = (old new : ℕ → Bool) (points : ℕ → Option ℕ) (end : ℕ) (a : ℕ × ℕ) (ps : List (ℕ × ℕ)) →
    Chain points a ps → (last_of a ps).0 < end →
    ((t : ℕ) → t < a.0 → kept old (flow points end) t ≡ kept new (flow points end) t) →
    ((t : ℕ) → (last_of a ps).0 ≤ t → kept old (flow points end) t ≡ kept new (flow points end) t) →
    register_energy old points end + pairs_sum new (a ∷ ps) ≡ register_energy new points end + pairs_sum old (a ∷ ps)

-- a sum in which the term of one place changes, as the energy of all meters where one register's does
abbrev pub OneTermChanges : Type 0
OneTermChanges = (f g : ℕ → ℕ) (m taken given n : ℕ) → m < n → ((i : ℕ) → (i ≡ m → ⊥) → f i ≡ g i) →
    g m + taken ≡ f m + given → sum_over g 0 n + taken ≡ sum_over f 0 n + given

-- `last` finds the latest, and nothing where nothing stands
pub record FindsLatest {A : Type 0} (p : ℕ → Option A) (t : ℕ) : Type 0 where
  pub found : (x : ℕ) (a : A) → last p t ≡ Some (x, a) → IsLast p t x a
  pub is_found : (x : ℕ) (a : A) → IsLast p t x a → last p t ≡ Some (x, a)
  pub nothing : last p t ≡ None → (s : ℕ) → s ≤ t → p s ≡ None
  pub nothing_found : ((s : ℕ) → s ≤ t → p s ≡ None) → last p t ≡ None

-- `next` finds the earliest, and nothing where nothing stands
pub record FindsNext {A : Type 0} (p : ℕ → Option A) (t n : ℕ) : Type 0 where
  pub found : (y : ℕ) (a : A) → next p t n ≡ Some (y, a) → IsNext p t n y a
  pub is_found : (y : ℕ) (a : A) → IsNext p t n y a → next p t n ≡ Some (y, a)
  pub nothing : next p t n ≡ None → (s : ℕ) → t < s → s ≤ t + n → p s ≡ None
  pub nothing_found : ((s : ℕ) → t < s → s ≤ t + n → p s ≡ None) → next p t n ≡ None

-- neighbours are a point and what `next` finds behind it
pub record AreFound (points : ℕ → Option ℕ) (end x w y v : ℕ) : Type 0 where
  pub found : AreNeighbours points x w y v → y ≤ end → next points x (end - x) ≡ Some (y, v)
  pub neighbours : points x ≡ Some w → next points x (end - x) ≡ Some (y, v) → AreNeighbours points x w y v
  pub seen : next points x (end - x) ≡ Some (y, v) → y ≤ end

abbrev pub NeighboursAreFound : Type 0
NeighboursAreFound = (points : ℕ → Option ℕ) (end x w y v : ℕ) → AreFound points end x w y v
