-- A line of data sets. Places are those of the block; past its end each place reads 0.
-- IEC 62056-21, data line: data sets one after the other, each an address and its values in parentheses.
use Rattle.std.specs.Prelude.{◌≡◌, ℕ, zero, suc, ◌+◌, ◌<◌, ◌≤◌, List, [], ◌∷◌, slice_index, slice_range}
use Rattle.pw_obis.specs.Bytes.{LF, CR, OPENING, CLOSING}

-- a set without where it lies in memory
pub record SetText : Type 0 where
  pub address : List ℕ
  pub values : List ℕ

abbrev pub IsText : ℕ → Type 0
IsText byte = (32 ≤ byte) × (byte ≤ 126) × (byte ≡ 40 → ⊥) × (byte ≡ 41 → ⊥)

-- an address, or what stands in parentheses: all the text from `from` on
pub record TextAt (block : List ℕ) (from to : ℕ) : Type 0 where
  pub rises : from ≤ to
  pub each : (i : ℕ) → from ≤ i → i < to → IsText (slice_index block i)
  pub more : IsText (slice_index block to) → ⊥

-- a value in parentheses
pub record ValueAt (block : List ℕ) (from to : ℕ) : Type 0 where
  pub close : ℕ
  pub left : slice_index block from ≡ OPENING
  pub text : TextAt block (from + 1) close
  pub right : slice_index block close ≡ CLOSING
  pub next : to ≡ close + 1

-- so many values, and no further one behind: so only the first address of a line may be empty
abbrev pub ValuesAt : List ℕ → ℕ → ℕ → ℕ → Type 0
ValuesAt block zero from to = (from ≡ to) × (slice_index block to ≡ OPENING → ⊥)
ValuesAt block (suc n) from to = (next : ℕ) × ValueAt block from next × ValuesAt block n next to

-- an address and one or more values
pub record SetAt (block : List ℕ) (from mid to : ℕ) : Type 0 where
  pub address : TextAt block from mid
  pub others : ℕ
  pub values : ValuesAt block (suc others) mid to

-- sets up to CR LF
abbrev pub SetsAt : List ℕ → ℕ → ℕ → List SetText → Type 0
SetsAt block from end [] = (from ≡ end) × (slice_index block end ≡ CR) × (slice_index block (end + 1) ≡ LF)
SetsAt block from end (set ∷ sets) =
    (mid : ℕ) × (to : ℕ) × SetAt block from mid to
    × (set ≡ record { address = slice_range block from mid; values = slice_range block mid to }) × SetsAt block to end sets
