-- What the sets of a frame show of the registers that count for a meter, or what is wrong with them.
-- (IEC 62056-6-1; that a register which stands twice must show the same is this project's profile.)
use Rattle.std.specs.Prelude.{◌≡◌, ℕ, true, Option, Some, None, List, [], ◌∷◌, ◌++◌, Result, Ok, Err}
use Rattle.std.specs.List.{flat_map}
use Rattle.pw_obis.specs.declared.reference.Code.{Code}
use Rattle.pw_obis.specs.declared.reference.Register.{Register}
use Rattle.pw_obis.specs.declared.value.ValueFault.{ValueFault}
use Rattle.pw_obis.specs.Address.{IsCodeOf}
use Rattle.pw_obis.specs.FirstValue.{IsFirstValue}
use Rattle.pw_obis.specs.Line.{SetText}
use Rattle.pw_obis.specs.References.{IsCodeOfRegister}
use Rattle.pw_obis.specs.Registers.{registers}
use Rattle.pw_obis.specs.Value.{IsEnergy}
use Rattle.pw_tariff.specs.Office.{OfficeFile, counts_at}
use Rattle.pw_model.specs.declared.records.Entry.{Entry}
use Rattle.pw_model.specs.Counting.{Member}
use Rattle.pw_model.specs.Lists.{reading_entry}
use Rattle.pw_record.specs.declared.fault.Cause.{Cause}
use Rattle.pw_record.specs.declared.fault.Cause.TheVariants.{Value, RegisterTwice}

-- the set is of a register that counts for the meter, and so much is what its first value states, or what is wrong with it
pub record Measures (file : OfficeFile) (meter : ℕ) (set : SetText) (register : Register) (energy : Result ℕ ValueFault) : Type 0 where
  pub code : Code
  pub value : List ℕ
  pub code_is : IsCodeOf set.address (Some code)
  pub register_is : IsCodeOfRegister register code
  pub counts : counts_at file meter register ≡ true
  pub value_is : IsFirstValue set.values value
  pub energy_is : IsEnergy value energy

-- so many Wh are shown: some set is of the register, and all that are show so many
pub record ShowOne (file : OfficeFile) (meter : ℕ) (sets : List SetText) (register : Register) (wh : ℕ) : Type 0 where
  pub set : SetText
  pub member : Member set sets
  pub measures : Measures file meter set register (Ok wh)
  pub only : (other : SetText) (energy : Result ℕ ValueFault) → Member other sets → Measures file meter other register energy → energy ≡ Ok wh

-- what the sets show of a register: so many Wh, or nothing where none is of it
abbrev pub IsShown : OfficeFile → ℕ → List SetText → Register → Option ℕ → Type 0
IsShown file meter sets register (Some wh) = ShowOne file meter sets register wh
IsShown file meter sets register None = (set : SetText) (energy : Result ℕ ValueFault) → Member set sets → Measures file meter set register energy → ⊥

-- what the sets show of each register
abbrev pub AreShown : OfficeFile → ℕ → List SetText → (Register → Option ℕ) → Type 0
AreShown file meter sets shown = (register : Register) → IsShown file meter sets register (shown register)

-- ---- what is wrong
-- behind sets that show this, the set has a wrong value, or is of a register that shows another one
abbrev pub IsWrongSet : OfficeFile → ℕ → (Register → Option ℕ) → SetText → Cause → Type 0
IsWrongSet file meter shown set (Value fault) = (register : Register) × Measures file meter set register (Err fault)
IsWrongSet file meter shown set RegisterTwice =
    (register : Register) × (wh : ℕ) × (other : ℕ) × Measures file meter set register (Ok wh) × (shown register ≡ Some other) × (wh ≡ other → ⊥)
IsWrongSet file meter shown set _ = ⊥

-- the first set with which something is wrong
pub record HasWrongSet (file : OfficeFile) (meter : ℕ) (sets : List SetText) (cause : Cause) : Type 0 where
  pub before : List SetText
  pub set : SetText
  pub behind : List SetText
  pub shown : Register → Option ℕ
  pub sets_are : sets ≡ before ++ set ∷ behind
  pub right : AreShown file meter before shown
  pub wrong : IsWrongSet file meter shown set cause

-- ---- the readings of a frame: one of each register that is shown
abbrev pub reading_of : ℕ → ℕ → Register → Option ℕ → List Entry
reading_of meter instant register None = []
reading_of meter instant register (Some wh) = reading_entry meter register instant wh ∷ []

abbrev pub readings_of : ℕ → ℕ → (Register → Option ℕ) → List Entry
readings_of meter instant shown = flat_map (λ r. reading_of meter instant r (shown r)) registers
