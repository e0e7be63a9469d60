-- What the inner steps of the reader of a value answer. It serves `src/value.rt`.
use Rattle.std.specs.Prelude.{ℕ, ◌<◌, ◌≤◌, List, Result, Ok, Err}
use Rattle.pw_obis.specs.declared.energy.TheConstants.{LARGEST_WATT_HOURS}
use Rattle.pw_obis.specs.declared.value.EnergyUnit.{EnergyUnit}
use Rattle.pw_obis.specs.declared.value.ValueFault.{ValueFault}
use Rattle.pw_obis.specs.declared.value.ValueFault.TheVariants.{Digits, Unit as UnitFault, TooLarge}
use Rattle.pw_obis.specs.Value.{IsNumberOf}

-- the Wh of a number, or what is wrong with it
abbrev pub IsCounted : EnergyUnit → List ℕ → Result ℕ ValueFault → Type 0
IsCounted unit number (Ok wh) = IsNumberOf unit number wh × (wh ≤ LARGEST_WATT_HOURS)
IsCounted unit number (Err Digits) = (wh : ℕ) → IsNumberOf unit number wh → ⊥
IsCounted unit number (Err TooLarge) = (wh : ℕ) × IsNumberOf unit number wh × (LARGEST_WATT_HOURS < wh)
IsCounted unit number (Err UnitFault) = ⊥
