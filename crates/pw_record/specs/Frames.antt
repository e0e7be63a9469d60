-- A body of telegrams or of readouts: the entries that it gives, or why it is refused.
-- (Definitions of this project over the frames of DSMR P1 Companion Standard 5.0.2 and IEC 62056-21.)
use Rattle.std.specs.Prelude.{◌≡◌, ℕ, ◌+◌, ◌<◌, ◌≤◌, ◌⊎◌, Option, Some, None, List, [], ◌∷◌, ◌++◌, length}
use Rattle.pw_frame.specs.declared.frame.FrameFault.{FrameFault}
use Rattle.pw_frame.specs.Frame.{FrameText}
use Rattle.pw_frame.specs.Body.{Front, BodyReading, BodyFault}
use Rattle.pw_obis.specs.declared.fault.LineFault.{LineFault}
use Rattle.pw_obis.specs.declared.reference.Register.{Register}
use Rattle.pw_obis.specs.Block.{HasSets}
use Rattle.pw_obis.specs.Line.{SetText}
use Rattle.pw_tariff.specs.Office.{OfficeFile}
use Rattle.pw_time.specs.declared.zone.Clock.{Clock}
use Rattle.pw_time.specs.declared.zone.Clock.TheVariants.{Marked}
use Rattle.pw_model.specs.declared.records.Entry.{Entry}
use Rattle.pw_record.specs.declared.fault.Cause.{Cause}
use Rattle.pw_record.specs.declared.fault.Cause.TheVariants.{Frame, Line, UnknownMeter, WrongKind, NoRegister, TooManyParts}
use Rattle.pw_record.specs.declared.fault.UploadFault.{UploadFault}
use Rattle.pw_record.specs.Causes.{want_of_memory}
use Rattle.pw_record.specs.declared.frames.TheConstants.{MOST_FRAMES}
use Rattle.pw_record.specs.declared.origin.Source.{Source}
use Rattle.pw_record.specs.declared.origin.Source.TheVariants.{Telegrams, Readouts}
use Rattle.pw_record.specs.Listed.{AreListed}
use Rattle.pw_record.specs.Names.{HasId, IsUnknownId, HasClock}
use Rattle.pw_record.specs.Origin.{kind_of, HasOrigin, RefusesOrigin}
use Rattle.pw_record.specs.Shown.{AreShown, HasWrongSet, readings_of}

-- ---- one frame: it has a meter and an instant, and gives a reading for each register that it shows, one at least
pub record FrameGives (file : OfficeFile) (source : Source) (frame : FrameText) (given : List Entry) : Type 0 where
  pub sets : List SetText
  pub meter : ℕ
  pub instant : ℕ
  pub shown : Register → Option ℕ
  pub kind_is : frame.kind ≡ kind_of source
  pub has : HasSets frame.block sets None
  pub origin : HasOrigin file source sets meter instant
  pub shown_are : AreShown file meter sets shown
  pub some : (register : Register) × (wh : ℕ) × (shown register ≡ Some wh)
  pub given_are : given ≡ readings_of meter instant shown

-- a frame is refused for its kind ..
pub record IsOfOtherKind (source : Source) (frame : FrameText) (cause : Cause) : Type 0 where
  pub unlike : frame.kind ≡ kind_of source → ⊥
  pub cause_is : cause ≡ WrongKind

-- .. or else for a line of its block ..
pub record HasWrongLine (source : Source) (frame : FrameText) (cause : Cause) : Type 0 where
  pub sets : List SetText
  pub fault : LineFault
  pub kind_is : frame.kind ≡ kind_of source
  pub has : HasSets frame.block sets (Some fault.at)
  pub cause_is : cause ≡ Line fault

-- .. or else for its meter or its instant ..
pub record HasWrongOrigin (file : OfficeFile) (source : Source) (frame : FrameText) (cause : Cause) : Type 0 where
  pub sets : List SetText
  pub kind_is : frame.kind ≡ kind_of source
  pub has : HasSets frame.block sets None
  pub refused : RefusesOrigin file source sets cause

-- .. or else for a set, or for showing no register that counts
pub record HasWrongReadings (file : OfficeFile) (source : Source) (frame : FrameText) (cause : Cause) : Type 0 where
  pub sets : List SetText
  pub meter : ℕ
  pub instant : ℕ
  pub kind_is : frame.kind ≡ kind_of source
  pub has : HasSets frame.block sets None
  pub origin : HasOrigin file source sets meter instant
  pub wrong : HasWrongSet file meter sets cause ⊎ (AreShown file meter sets (λ register. None) × (cause ≡ NoRegister))

abbrev pub RefusesFrame : OfficeFile → Source → FrameText → Cause → Type 0
RefusesFrame file source frame cause =
    IsOfOtherKind source frame cause
    ⊎ (HasWrongLine source frame cause ⊎ (HasWrongOrigin file source frame cause ⊎ HasWrongReadings file source frame cause))

-- ---- frames one after the other
abbrev pub FramesGive : OfficeFile → Source → List FrameText → List Entry → Type 0
FramesGive file source [] given = given ≡ []
FramesGive file source (frame ∷ frames) given =
    (first : List Entry) × (more : List Entry) × FrameGives file source frame first × FramesGive file source frames more × (given ≡ first ++ more)

-- the body is read as at most 64 frames; the entries are those of its frames
pub record BodyGives (file : OfficeFile) (source : Source) (body : List ℕ) (entries : List Entry) : Type 0 where
  pub frames : List FrameText
  pub given : List Entry
  pub reading : BodyReading body frames
  pub few : length frames ≤ MOST_FRAMES
  pub each : FramesGive file source frames given
  pub listed : AreListed given entries

-- ---- why the part behind frames is refused
-- they are 64, and more than CR LF pairs stands behind them
pub record HasMoreFrames (body : List ℕ) (frames : List FrameText) (cause : Cause) : Type 0 where
  pub place : ℕ
  pub many : length frames ≡ MOST_FRAMES
  pub front : Front body frames place
  pub more : BodyReading body frames → ⊥
  pub cause_is : cause ≡ TooManyParts

-- no frame stands behind them
pub record HasNoFrame (body : List ℕ) (frames : List FrameText) (cause : Cause) : Type 0 where
  pub fault : FrameFault
  pub few : length frames < MOST_FRAMES
  pub stops : BodyFault body frames fault
  pub cause_is : cause ≡ Frame fault

-- a frame stands behind them that is refused, whatever stands behind it
pub record HasRefusedFrame (file : OfficeFile) (source : Source) (body : List ℕ) (frames : List FrameText) (cause : Cause) : Type 0 where
  pub frame : FrameText
  pub place : ℕ
  pub few : length frames < MOST_FRAMES
  pub front : Front body (frames ++ frame ∷ []) place
  pub refused : RefusesFrame file source frame cause

abbrev pub RefusesBehind : OfficeFile → Source → List ℕ → List FrameText → Cause → Type 0
RefusesBehind file source body frames cause =
    HasMoreFrames body frames cause ⊎ (HasNoFrame body frames cause ⊎ HasRefusedFrame file source body frames cause)

-- behind frames that aren't refused stands a part that is
pub record BodyStops (file : OfficeFile) (source : Source) (body : List ℕ) (part : ℕ) (cause : Cause) : Type 0 where
  pub before : List FrameText
  pub given : List Entry
  pub good : FramesGive file source before given
  pub part_is : part ≡ length before + 1
  pub refused : RefusesBehind file source body before cause

-- why a body is refused; want of memory says nothing of the body
abbrev pub BodyRefused : OfficeFile → Source → List ℕ → UploadFault → Type 0
BodyRefused file source body fault = (fault ≡ want_of_memory) ⊎ BodyStops file source body fault.part fault.cause

-- ---- a body of telegrams
abbrev pub TelegramsGive : OfficeFile → List ℕ → List Entry → Type 0
TelegramsGive file body entries = BodyGives file Telegrams body entries

abbrev pub TelegramsRefused : OfficeFile → List ℕ → UploadFault → Type 0
TelegramsRefused file body fault = BodyRefused file Telegrams body fault

-- ---- a body of readouts, of the meter with an id
-- the office has the meter, and its clock doesn't mark its times, as readouts have no marks
pub record IsReadoutMeter (file : OfficeFile) (id : List ℕ) (meter : ℕ) (clock : Clock) : Type 0 where
  pub meter_is : HasId file id meter
  pub clock_is : HasClock file meter clock
  pub unmarked : clock ≡ Marked → ⊥

abbrev pub readouts_of : ℕ → Clock → Source
readouts_of meter clock = Readouts (record { 0 = meter }) clock

abbrev pub ReadoutsGive : OfficeFile → List ℕ → List ℕ → List Entry → Type 0
ReadoutsGive file id body entries =
    (meter : ℕ) × (clock : Clock) × IsReadoutMeter file id meter clock × BodyGives file (readouts_of meter clock) body entries

-- the path's meter is told before all parts
abbrev pub ReadoutsRefused : OfficeFile → List ℕ → List ℕ → UploadFault → Type 0
ReadoutsRefused file id body fault =
    (IsUnknownId file id × (fault ≡ record { part = 0; cause = UnknownMeter }))
    ⊎ (((meter : ℕ) × HasId file id meter × HasClock file meter Marked × (fault ≡ record { part = 0; cause = WrongKind }))
    ⊎ ((meter : ℕ) × (clock : Clock) × IsReadoutMeter file id meter clock × BodyRefused file (readouts_of meter clock) body fault))
