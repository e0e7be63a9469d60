-- What a code stands for.
-- IEC 62056-6-1: 1.8 is energy delivered to the client, 2.8 energy delivered by the client; E = 0 is the total,
-- E = 1 and 2 are rates; 96.1.1 is an identifier, 0.9.1 and 0.9.2 are the meter's time and date.
-- DSMR P1 Companion Standard 5.0.2: `0-0:96.1.1` and the stamp `0-0:1.0.0`.
-- In all of them F is absent or 255: other values of F are historical.
use Rattle.std.specs.Prelude.{◌≡◌, ℕ, ◌≤◌, Option, Some, None}
use Rattle.pw_obis.specs.declared.meaning.Meaning.{Meaning}
use Rattle.pw_obis.specs.declared.meaning.Meaning.TheVariants.{Identifier, Stamp, Time, Date}
use Rattle.pw_obis.specs.declared.reference.Code.{Code}
use Rattle.pw_obis.specs.declared.reference.Register.{Register}
use Rattle.pw_obis.specs.declared.reference.Register.TheVariants.{I0, I1, I2, E0, E1, E2}

-- absent, or at most this
abbrev pub AbsentOrUpTo : ℕ → Option ℕ → Type 0
AbsentOrUpTo most None = Unit {0}
AbsentOrUpTo most (Some value) = value ≤ most

-- absent, or this
abbrev pub AbsentOr : ℕ → Option ℕ → Type 0
AbsentOr wanted None = Unit {0}
AbsentOr wanted (Some value) = value ≡ wanted

-- C.D.E of the present billing period
pub record Refers (code : Code) (c d e : ℕ) : Type 0 where
  pub c_is : code.c ≡ c
  pub d_is : code.d ≡ d
  pub e_is : code.e ≡ Some e
  pub f_is : AbsentOr 255 code.f

-- of electricity: A absent or 1; B absent, 0 or 1
pub record Energy (code : Code) (c e : ℕ) : Type 0 where
  pub a_is : AbsentOr 1 code.a
  pub b_is : AbsentOrUpTo 1 code.b
  pub refers : Refers code c 8 e

-- the code is one of the register
abbrev pub IsCodeOfRegister : Register → Code → Type 0
IsCodeOfRegister I0 code = Energy code 1 0
IsCodeOfRegister I1 code = Energy code 1 1
IsCodeOfRegister I2 code = Energy code 1 2
IsCodeOfRegister E0 code = Energy code 2 0
IsCodeOfRegister E1 code = Energy code 2 1
IsCodeOfRegister E2 code = Energy code 2 2

-- the register of a code, or none
abbrev pub IsRegisterOf : Code → Option Register → Type 0
IsRegisterOf code (Some register) = IsCodeOfRegister register code
IsRegisterOf code None = (register : Register) → IsCodeOfRegister register code → ⊥

-- of a telegram: `0-0:`
pub record OfTelegram (code : Code) (c d e : ℕ) : Type 0 where
  pub a_is : code.a ≡ Some 0
  pub b_is : code.b ≡ Some 0
  pub refers : Refers code c d e

-- of a readout: A absent, 0 or 1; B absent, 0 or 1
pub record OfReadout (code : Code) (c d e : ℕ) : Type 0 where
  pub a_is : AbsentOrUpTo 1 code.a
  pub b_is : AbsentOrUpTo 1 code.b
  pub refers : Refers code c d e

-- the meter identifier and the stamp of a telegram
abbrev pub IsIdentifier : Code → Type 0
IsIdentifier code = OfTelegram code 96 1 1

abbrev pub IsStamp : Code → Type 0
IsStamp code = OfTelegram code 1 0 0

-- the time and the date of a readout
abbrev pub IsTime : Code → Type 0
IsTime code = OfReadout code 0 9 1

abbrev pub IsDate : Code → Type 0
IsDate code = OfReadout code 0 9 2

-- what a code stands for, of these
abbrev pub IsCodeOfMeaning : Meaning → Code → Type 0
IsCodeOfMeaning Identifier code = IsIdentifier code
IsCodeOfMeaning Stamp code = IsStamp code
IsCodeOfMeaning Time code = IsTime code
IsCodeOfMeaning Date code = IsDate code
