-- A block of lines.
-- IEC 62056-21, data block: data lines, each ended by CR LF. DSMR P1 Companion Standard 5.0.2: the lines of a telegram.
use Rattle.std.specs.Prelude.{◌≡◌, ℕ, zero, suc, ◌+◌, ◌<◌, List, [], ◌++◌, length, Option, Some, None}
use Rattle.pw_obis.specs.Line.{SetText, SetsAt}

-- behind the last good line the block ends, or a byte stands there with which no line begins
abbrev pub StopsAt : List ℕ → ℕ → Option ℕ → Type 0
StopsAt block place None = place ≡ length block
StopsAt block place (Some at) = (at ≡ place) × (place < length block) × ((end : ℕ) (sets : List SetText) → SetsAt block place end sets → ⊥)

-- so many lines stand from a place on: their sets, and the refusal behind them
abbrev pub LinesAt : List ℕ → ℕ → ℕ → List SetText → Option ℕ → Type 0
LinesAt block zero place sets refusal = (sets ≡ []) × StopsAt block place refusal
LinesAt block (suc n) place sets refusal =
    (end : ℕ) × (first : List SetText) × (more : List SetText) × SetsAt block place end first × (sets ≡ first ++ more) × LinesAt block n (end + 2) more refusal

-- the sets of a block, in order, and the place of the first byte of its first line that is none, if any
abbrev pub HasSets : List ℕ → List SetText → Option ℕ → Type 0
HasSets block sets refusal = (lines : ℕ) × LinesAt block lines 0 sets refusal
