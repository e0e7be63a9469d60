-- What the sets of a frame tell of its meter and its instant.
-- (DSMR P1 Companion Standard 5.0.2: identifier and stamp of a telegram. IEC 62056-6-1: time and date of a readout. That sets
-- which tell the same thing must agree is this project's profile.)
use Rattle.std.specs.Prelude.{◌≡◌, ℕ, ◌-◌, ◌&&◌, nat_le, Some, List, map, if◌then◌else◌}
use Rattle.pw_obis.specs.declared.meaning.Meaning.{Meaning}
use Rattle.pw_obis.specs.declared.meaning.Meaning.TheVariants.{Identifier}
use Rattle.pw_obis.specs.declared.reference.Code.{Code}
use Rattle.pw_obis.specs.Address.{IsCodeOf}
use Rattle.pw_obis.specs.FirstValue.{IsFirstValue}
use Rattle.pw_obis.specs.Line.{SetText}
use Rattle.pw_obis.specs.References.{IsCodeOfMeaning}
use Rattle.pw_model.specs.Counting.{Member}

-- the letters a to f are read as capitals
abbrev pub capital : ℕ → ℕ
capital byte = if nat_le 97 byte && nat_le byte 102 then byte - 32 else byte

abbrev pub capitals : List ℕ → List ℕ
capitals text = map capital text

-- a value as it is read: of an identifier in capitals, any other as it stands
abbrev pub read_as : Meaning → List ℕ → List ℕ
read_as Identifier text = capitals text
read_as _ text = text

-- the set tells this value
pub record Tells (meaning : Meaning) (set : SetText) (value : List ℕ) : Type 0 where
  pub code : Code
  pub text : List ℕ
  pub code_is : IsCodeOf set.address (Some code)
  pub means : IsCodeOfMeaning meaning code
  pub text_is : IsFirstValue set.values text
  pub value_is : value ≡ read_as meaning text

-- one of the sets does
abbrev pub IsTold : Meaning → List SetText → List ℕ → Type 0
IsTold meaning sets value = (set : SetText) × Member set sets × Tells meaning set value

-- none tells any
abbrev pub TellNothing : Meaning → List SetText → Type 0
TellNothing meaning sets = (value : List ℕ) → IsTold meaning sets value → ⊥

-- some tell this value, and none another one
pub record TellOne (meaning : Meaning) (sets : List SetText) (value : List ℕ) : Type 0 where
  pub told : IsTold meaning sets value
  pub only : (other : List ℕ) → IsTold meaning sets other → other ≡ value

-- two values are told that are unlike
pub record TellUnlike (meaning : Meaning) (sets : List SetText) : Type 0 where
  pub one : List ℕ
  pub other : List ℕ
  pub one_told : IsTold meaning sets one
  pub other_told : IsTold meaning sets other
  pub unlike : one ≡ other → ⊥
