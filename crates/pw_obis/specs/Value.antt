-- The value of a register, as it stands in the parentheses of a data set.
-- IEC 62056-21, data message: a value, `*` and its unit.
-- DSMR P1 Companion Standard 5.0.2, electricity data: `001000.000*kWh`.
-- Which numbers are read, and that more than 99,999,999,999 Wh are refused, is this project's profile.
use Rattle.std.specs.Prelude.{◌≡◌, ℕ, ◌*◌, ◌/◌, ◌^◌, ◌<◌, ◌≤◌, ◌⊎◌, List, [], ◌∷◌, ◌++◌, length, slice_index, Result, Ok, Err, codes}
use Rattle.std.specs.Str.Parse.{digits_value, IsNumeral, AllDigits}
use Rattle.pw_obis.specs.declared.energy.TheConstants.{LARGEST_WATT_HOURS}
use Rattle.pw_obis.specs.declared.value.EnergyUnit.{EnergyUnit}
use Rattle.pw_obis.specs.declared.value.EnergyUnit.TheVariants.{KilowattHour, WattHour}
use Rattle.pw_obis.specs.declared.value.ValueFault.{ValueFault}
use Rattle.pw_obis.specs.declared.value.ValueFault.TheVariants.{Digits, Unit as UnitFault, TooLarge}
use Rattle.pw_obis.specs.Bytes.{STAR, DOT}

abbrev pub unit_text : EnergyUnit → List ℕ
unit_text KilowattHour = codes "kWh"
unit_text WattHour = codes "Wh"

-- the number is what stands before the first `*` of the text, the unit what stands behind it
pub record InUnit (text number unit : List ℕ) : Type 0 where
  pub spelled : text ≡ number ++ STAR ∷ unit
  pub first : (i : ℕ) → i < length number → slice_index number i ≡ STAR → ⊥

-- digits, and optionally a point and digits
pub record Decimal (number whole decimals : List ℕ) : Type 0 where
  pub digits : AllDigits 10 whole
  pub some : 0 < length whole
  pub more : AllDigits 10 decimals
  pub spelled : ((number ≡ whole) × (decimals ≡ [])) ⊎ ((number ≡ whole ++ DOT ∷ decimals) × (0 < length decimals))

-- the whole part of 1,000 times the decimal number
abbrev pub thousandths : List ℕ → List ℕ → ℕ
thousandths whole decimals = digits_value 10 (whole ++ decimals) * 1000 / 10 ^ length decimals

-- the Wh that a number of a unit is: a decimal number of kWh, or digits for Wh
abbrev pub IsNumberOf : EnergyUnit → List ℕ → ℕ → Type 0
IsNumberOf KilowattHour number wh = (whole : List ℕ) × (decimals : List ℕ) × Decimal number whole decimals × (wh ≡ thousandths whole decimals)
IsNumberOf WattHour number wh = IsNumeral 10 number × (wh ≡ digits_value 10 number)

-- the text has one of the two units
abbrev pub HasUnit : List ℕ → Type 0
HasUnit text = (unit : EnergyUnit) × (number : List ℕ) × InUnit text number (unit_text unit)

-- the text states so many Wh
abbrev pub StatesWattHours : List ℕ → ℕ → Type 0
StatesWattHours text wh = (unit : EnergyUnit) × (number : List ℕ) × InUnit text number (unit_text unit) × IsNumberOf unit number wh

-- the energy of a value, or what is wrong with it
abbrev pub IsEnergy : List ℕ → Result ℕ ValueFault → Type 0
IsEnergy text (Ok wh) = StatesWattHours text wh × (wh ≤ LARGEST_WATT_HOURS)
IsEnergy text (Err UnitFault) = HasUnit text → ⊥
IsEnergy text (Err Digits) = HasUnit text × ((wh : ℕ) → StatesWattHours text wh → ⊥)
IsEnergy text (Err TooLarge) = (wh : ℕ) × StatesWattHours text wh × (LARGEST_WATT_HOURS < wh)
