-- The meter and the instant of a frame, or why it has none.
-- (DSMR P1 Companion Standard 5.0.2 and IEC 62056-6-1; the order in which faults are told is this project's.)
use Rattle.std.specs.Prelude.{◌≡◌, ℕ, ◌⊎◌, List, Ok, Err}
use Rattle.pw_frame.specs.declared.frame.Kind.{Kind}
use Rattle.pw_frame.specs.declared.frame.Kind.TheVariants.{Telegram, Readout}
use Rattle.pw_obis.specs.Line.{SetText}
use Rattle.pw_tariff.specs.Office.{OfficeFile}
use Rattle.pw_time.specs.declared.zone.Clock.{Clock}
use Rattle.pw_time.specs.declared.zone.Clock.TheVariants.{Marked}
use Rattle.pw_time.specs.Outcomes.{IsStampOutcome, IsReadoutOutcome}
use Rattle.pw_record.specs.declared.fault.Cause.{Cause}
use Rattle.pw_record.specs.declared.fault.Cause.TheVariants.{Instant as InstantCause, NoMeter, UnknownMeter, WrongKind, NoInstant, TwiceGiven}
use Rattle.pw_obis.specs.declared.meaning.Meaning.TheVariants.{Identifier, Stamp, Time, Date}
use Rattle.pw_record.specs.declared.origin.Source.{Source}
use Rattle.pw_record.specs.declared.origin.Source.TheVariants.{Telegrams, Readouts}
use Rattle.pw_record.specs.Names.{HasId, IsUnknownId, HasClock}
use Rattle.pw_record.specs.Told.{IsTold, TellNothing, TellOne, TellUnlike}

abbrev pub kind_of : Source → Kind
kind_of Telegrams = Telegram
kind_of (Readouts meter clock) = Readout

-- ---- the meter of a telegram: all its identifiers are alike, and are the id of a meter whose clock marks its times
pub record HasMeter (file : OfficeFile) (sets : List SetText) (meter : ℕ) : Type 0 where
  pub id : List ℕ
  pub id_is : TellOne Identifier sets id
  pub meter_is : HasId file id meter
  pub marked : HasClock file meter Marked

-- the meter's clock is of another kind
pub record HasOtherClock (file : OfficeFile) (sets : List SetText) : Type 0 where
  pub id : List ℕ
  pub meter : ℕ
  pub clock : Clock
  pub id_is : TellOne Identifier sets id
  pub meter_is : HasId file id meter
  pub clock_is : HasClock file meter clock
  pub unmarked : clock ≡ Marked → ⊥

abbrev pub RefusesMeter : OfficeFile → List SetText → Cause → Type 0
RefusesMeter file sets NoMeter = TellNothing Identifier sets
RefusesMeter file sets TwiceGiven = TellUnlike Identifier sets
RefusesMeter file sets UnknownMeter = (id : List ℕ) × TellOne Identifier sets id × IsUnknownId file id
RefusesMeter file sets WrongKind = HasOtherClock file sets
RefusesMeter file sets _ = ⊥

-- ---- the instant of a telegram: that of its stamps, which are all alike
abbrev pub HasStamp : List SetText → ℕ → Type 0
HasStamp sets instant = (text : List ℕ) × TellOne Stamp sets text × IsStampOutcome text (Ok instant)

abbrev pub RefusesStamp : List SetText → Cause → Type 0
RefusesStamp sets NoInstant = TellNothing Stamp sets
RefusesStamp sets TwiceGiven = TellUnlike Stamp sets
RefusesStamp sets (InstantCause fault) = (text : List ℕ) × TellOne Stamp sets text × IsStampOutcome text (Err fault)
RefusesStamp sets _ = ⊥

-- ---- the instant of a readout: that of its dates and its times, by the meter's clock
abbrev pub HasDateAndTime : Clock → List SetText → ℕ → Type 0
HasDateAndTime clock sets instant =
    (date : List ℕ) × (time : List ℕ) × TellOne Date sets date × TellOne Time sets time × IsReadoutOutcome date time clock (Ok instant)

-- a date and a time are there, and two dates or two times are unlike
pub record TellTwice (sets : List SetText) : Type 0 where
  pub date : List ℕ
  pub time : List ℕ
  pub date_told : IsTold Date sets date
  pub time_told : IsTold Time sets time
  pub unlike : TellUnlike Date sets ⊎ TellUnlike Time sets

abbrev pub RefusesDateAndTime : Clock → List SetText → Cause → Type 0
RefusesDateAndTime clock sets NoInstant = TellNothing Date sets ⊎ TellNothing Time sets
RefusesDateAndTime clock sets TwiceGiven = TellTwice sets
RefusesDateAndTime clock sets (InstantCause fault) =
    (date : List ℕ) × (time : List ℕ) × TellOne Date sets date × TellOne Time sets time × IsReadoutOutcome date time clock (Err fault)
RefusesDateAndTime clock sets _ = ⊥

-- ---- the meter and the instant of a frame; of a telegram the meter is told before the instant, and that of a readout is
-- the upload's
abbrev pub HasOrigin : OfficeFile → Source → List SetText → ℕ → ℕ → Type 0
HasOrigin file Telegrams sets meter instant = HasMeter file sets meter × HasStamp sets instant
HasOrigin file (Readouts own clock) sets meter instant = (meter ≡ own.0) × HasDateAndTime clock sets instant

abbrev pub RefusesOrigin : OfficeFile → Source → List SetText → Cause → Type 0
RefusesOrigin file Telegrams sets cause = RefusesMeter file sets cause ⊎ (((meter : ℕ) × HasMeter file sets meter) × RefusesStamp sets cause)
RefusesOrigin file (Readouts own clock) sets cause = RefusesDateAndTime clock sets cause
