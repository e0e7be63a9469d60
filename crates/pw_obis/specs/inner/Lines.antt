-- What the inner steps over the lines of a block answer. It serves `src/block.rt`.
use Rattle.std.specs.Prelude.{◌≡◌, ℕ, ◌<◌, ◌≤◌, List, [], ◌∷◌, length, slice_index}
use Rattle.pw_obis.specs.Bytes.{CR}
use Rattle.pw_obis.specs.Line.{SetText, SetsAt}
use Rattle.pw_obis.specs.Coming.{AreLinesUpTo, from_place}
use Rattle.pw_obis.specs.declared.data_set.Set.{Set}
use Rattle.pw_obis.specs.Answers.{IsGiven}

-- a set stands there, of a line
abbrev pub HasSet : List ℕ → ℕ → Type 0
HasSet block place = ((end : ℕ) × (sets : List SetText) × SetsAt block place end sets) × (slice_index block place ≡ CR → ⊥)

-- the same is to come from `at` on, where a set stands, or no line any more
pub record IsNextPlace (block : List ℕ) (place stop at : ℕ) : Type 0 where
  pub lines : AreLinesUpTo block at stop
  pub same : from_place block place ≡ from_place block at
  pub set : at < stop → HasSet block at
  pub none : stop ≤ at → (from_place block at).sets ≡ []

-- the first set to come is taken, and `next` is the place behind it
pub record Takes (block : List ℕ) (place : ℕ) (set : Set) (next : ℕ) : Type 0 where
  pub first : SetText
  pub given : IsGiven first set
  pub sets : (from_place block place).sets ≡ first ∷ (from_place block next).sets
  pub refusal : (from_place block place).refusal ≡ (from_place block next).refusal
  pub within : next ≤ length block
