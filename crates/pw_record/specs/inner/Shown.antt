-- What the inner steps of reading a frame's registers answer. It serves `src/shown.rt`.
use Rattle.std.specs.Prelude.{◌≡◌, ℕ, ◌⊎◌, Option, Some, None, List, Result, slice_index_or}
use Rattle.pw_obis.specs.declared.reference.Register.{Register}
use Rattle.pw_obis.specs.declared.value.ValueFault.{ValueFault}
use Rattle.pw_obis.specs.Line.{SetText}
use Rattle.pw_tariff.specs.Office.{OfficeFile, register_place}
use Rattle.pw_record.specs.Shown.{Measures}

-- the set is of no register that counts
abbrev pub MeasuresNothing : OfficeFile → ℕ → SetText → Type 0
MeasuresNothing file meter set = (register : Register) (energy : Result ℕ ValueFault) → Measures file meter set register energy → ⊥

-- six numbers, by the places of the registers
abbrev pub shown_in : List (Option ℕ) → Register → Option ℕ
shown_in row register = slice_index_or row (register_place register) None

-- one register more is noted: it wasn't shown, or showed the same
pub record IsNoted (old new : List (Option ℕ)) (register : Register) (wh : ℕ) : Type 0 where
  pub before : (shown_in old register ≡ None) ⊎ (shown_in old register ≡ Some wh)
  pub here : shown_in new register ≡ Some wh
  pub others : (other : Register) → (other ≡ register → ⊥) → shown_in new other ≡ shown_in old other

-- the register shows another number already
abbrev pub IsUnlike : List (Option ℕ) → Register → ℕ → Type 0
IsUnlike row register wh = (other : ℕ) × (shown_in row register ≡ Some other) × (wh ≡ other → ⊥)
