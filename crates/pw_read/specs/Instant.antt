-- The instant of a frame: by the first stamp of a telegram, or by the first date and the first time of a readout.
use Rattle.std.specs.Prelude.{◌≡◌, ℕ, ◌⊎◌, List, ◌∷◌, ◌++◌, Option, Some, None, Result, Ok, Err, All}
use Rattle.pw_frame.specs.declared.frame.Kind.{Kind}
use Rattle.pw_frame.specs.declared.frame.Kind.TheVariants.{Telegram, Readout}
use Rattle.pw_obis.specs.declared.reference.Code.{Code}
use Rattle.pw_obis.specs.Address.{IsCodeOf}
use Rattle.pw_obis.specs.FirstValue.{IsFirstValue}
use Rattle.pw_obis.specs.Line.{SetText}
use Rattle.pw_obis.specs.References.{IsCodeOfMeaning}
use Rattle.pw_time.specs.declared.fault.StampFault.{StampFault}
use Rattle.pw_time.specs.declared.zone.Clock.{Clock}
use Rattle.pw_time.specs.Outcomes.{IsStampOutcome, IsReadoutOutcome}
use Rattle.pw_obis.specs.declared.meaning.Meaning.{Meaning}
use Rattle.pw_obis.specs.declared.meaning.Meaning.TheVariants.{Stamp, Time, Date}

-- the set tells no such thing
abbrev pub TellsNo : Meaning → SetText → Type 0
TellsNo meaning set = (code : Code) → IsCodeOf set.address (Some code) → IsCodeOfMeaning meaning code → ⊥

-- the first set that tells it has this first value
pub record FirstTold (meaning : Meaning) (sets : List SetText) (value : List ℕ) : Type 0 where
  pub before : List SetText
  pub set : SetText
  pub behind : List SetText
  pub code : Code
  pub sets_are : sets ≡ before ++ set ∷ behind
  pub none : All (TellsNo meaning) before
  pub code_is : IsCodeOf set.address (Some code)
  pub means : IsCodeOfMeaning meaning code
  pub value_is : IsFirstValue set.values value

-- the first value that tells it, or nothing where no set does
abbrev pub IsTold : Meaning → List SetText → Option (List ℕ) → Type 0
IsTold meaning sets (Some value) = FirstTold meaning sets value
IsTold meaning sets None = All (TellsNo meaning) sets

-- the instant of a frame's sets, nothing where they don't tell one, or why what they tell is none
abbrev pub IsFrameInstant : Kind → Clock → List SetText → Result (Option ℕ) StampFault → Type 0
IsFrameInstant Telegram clock sets (Ok None) = IsTold Stamp sets None
IsFrameInstant Telegram clock sets (Ok (Some instant)) = (value : List ℕ) × IsTold Stamp sets (Some value) × IsStampOutcome value (Ok instant)
IsFrameInstant Telegram clock sets (Err fault) = (value : List ℕ) × IsTold Stamp sets (Some value) × IsStampOutcome value (Err fault)
IsFrameInstant Readout clock sets (Ok None) = IsTold Date sets None ⊎ IsTold Time sets None
IsFrameInstant Readout clock sets (Ok (Some instant)) =
    (date : List ℕ) × (time : List ℕ) × IsTold Date sets (Some date) × IsTold Time sets (Some time) × IsReadoutOutcome date time clock (Ok instant)
IsFrameInstant Readout clock sets (Err fault) =
    (date : List ℕ) × (time : List ℕ) × IsTold Date sets (Some date) × IsTold Time sets (Some time) × IsReadoutOutcome date time clock (Err fault)
