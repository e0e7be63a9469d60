-- The laws of these definitions. Each is the contract of a function of the module `laws`.
use Rattle.std.specs.Prelude.{◌≡◌, ◌==◌, ℕ, ◌+◌, ◌-◌, ◌<◌, ◌≤◌, Option, Bool}
use Rattle.pw_flow.specs.Time.{sum_over}
use Rattle.pw_flow.specs.Flow.{AreNeighbours, IsSpanned, level, flow, rises}
use Rattle.pw_flow.specs.Energy.{kept, register_energy, cell}

-- ---- what is found before and behind a second

-- ---- the flow of a second, and of a piece
-- between neighbours that don't fall a second carries what the level rises by;
-- between neighbours that fall, and where no neighbours stand round it, nothing
pub record FlowsAsLevelRises (points : ℕ → Option ℕ) (end t : ℕ) : Type 0 where
  pub rising : (x w y v : ℕ) → IsSpanned points end t x w y v → w ≤ v →
      flow points end t ≡ level x w y v (t + 1) - level x w y v t
  pub falling : (x w y v : ℕ) → IsSpanned points end t x w y v → v < w → flow points end t ≡ 0
  pub unspanned : ((x w y v : ℕ) → IsSpanned points end t x w y v → ⊥) → flow points end t ≡ 0

abbrev pub FlowIsLevelRise : Type 0
FlowIsLevelRise = (points : ℕ → Option ℕ) (end t : ℕ) → FlowsAsLevelRises points end t

-- the flows of the seconds from p up to and without q add up to what the level rises by,
-- and over the whole pair to what the value rises by
pub record PiecesAddUp (points : ℕ → Option ℕ) (end x w y v : ℕ) : Type 0 where
  pub rising : (p q : ℕ) → p ≤ q → level x w y v p ≤ level x w y v q
  pub piece : (p q : ℕ) → x ≤ p → p ≤ q → q ≤ y →
      sum_over (flow points end) p (q - p) ≡ level x w y v q - level x w y v p
  pub whole : sum_over (flow points end) x (y - x) ≡ v - w

abbrev pub FlowsAddUp : Type 0
FlowsAddUp = (points : ℕ → Option ℕ) (end x w y v : ℕ) →
    AreNeighbours points x w y v → y ≤ end → w ≤ v → PiecesAddUp points end x w y v

-- all that flows is what neighbours that don't fall rise by
abbrev pub FlowIsRise : Type 0
FlowIsRise = (points : ℕ → Option ℕ) (end : ℕ) → sum_over (flow points end) 0 end ≡ rises points end

-- ---- what a pair gives
-- a pair gives at most what it rises by, and a fall nothing
pub record GivesAtMostRise (keeps : ℕ → Bool) (x w y v : ℕ) : Type 0 where
  pub at_most : cell keeps (x, w) (y, v) ≤ v - w
  pub fall : v < w → cell keeps (x, w) (y, v) ≡ 0

abbrev pub CellIsAtMostRise : Type 0
CellIsAtMostRise = (keeps : ℕ → Bool) (x w y v : ℕ) → GivesAtMostRise keeps x w y v

-- ---- which seconds are kept

-- ---- classes of seconds: each second belongs to one of `count` classes
-- what a sum gives to all classes is the whole sum, what a pair gives to them is its rise,
-- and the energies of all classes are all the rises
pub record ClassesShareAll (class : ℕ → ℕ) (count : ℕ) : Type 0 where
  pub sums : (f : ℕ → ℕ) (x n : ℕ) → ((t : ℕ) → x ≤ t → t < x + n → class t < count) →
      sum_over (λ i. sum_over (kept (λ t. class t == i) f) x n) 0 count ≡ sum_over f x n
  pub cells : (x w y v : ℕ) → x < y → w ≤ v → ((t : ℕ) → x ≤ t → t < y → class t < count) →
      sum_over (λ i. cell (λ t. class t == i) (x, w) (y, v)) 0 count ≡ v - w
  pub energies : (points : ℕ → Option ℕ) (end : ℕ) → ((t : ℕ) → t < end → class t < count) →
      sum_over (λ i. register_energy (λ t. class t == i) points end) 0 count ≡ rises points end

abbrev pub ClassesAddUp : Type 0
ClassesAddUp = (class : ℕ → ℕ) (count : ℕ) → ClassesShareAll class count

-- ---- changes
