-- The latest of some seconds. It serves `src/readings.rt`.
-- (Definitions of this project.)
use Rattle.std.specs.Prelude.{◌≡◌, ℕ, nat_lt, cond, false, Option, Some, None, List}
use Rattle.pw_obis.specs.declared.reference.Register.{Register}
use Rattle.pw_model.specs.declared.records.Entry.{Entry}
use Rattle.pw_model.specs.declared.records.ReadingRow.{ReadingRow}
use Rattle.pw_model.specs.Counting.{Member, standing}
use Rattle.pw_model.specs.Lists.{reading_entry}
use Rattle.pw_moving.specs.Adopting.{IsUpTo}
use Rattle.pw_carrying.specs.LastReading.{IsSuch}

-- the latest of the seconds that P holds of, if there is one
pub record IsLastOf (P : ℕ → Type 0) (last : Option ℕ) : Type 0 where
  pub up_to : (t : ℕ) → P t → IsUpTo last t
  pub there : IsSuch P last

-- a reading of a register that isn't withdrawn was taken at a second
abbrev pub IsReadOf : List Entry → ℕ → Register → ℕ → Type 0
IsReadOf s m r t = (w : ℕ) × Member (reading_entry m r t w) (standing s)

-- one of some register of a meter
abbrev pub IsReadOfMeter : List Entry → ℕ → ℕ → Type 0
IsReadOfMeter s m t = (r : Register) × IsReadOf s m r t

-- one of some rows
abbrev pub IsReadAmong : List ReadingRow → ℕ → Type 0
IsReadAmong rows t = (row : ReadingRow) × Member row rows × (row.withdrawn ≡ false) × (row.instant ≡ t)

-- the later of two seconds, either of which may be missing
abbrev pub later : Option ℕ → Option ℕ → Option ℕ
later None other = other
later (Some t) None = Some t
later (Some t) (Some u) = cond (nat_lt t u) (Some u) (Some t)
