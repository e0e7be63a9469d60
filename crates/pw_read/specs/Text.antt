-- What is printed of a body: its frames one after the other, or nothing where one of them is refused.
use Rattle.std.specs.Prelude.{◌≡◌, ℕ, ◌+◌, List, [], ◌∷◌, ◌++◌, length, Option, Some, None, Ok, Err, codes}
use Rattle.pw_frame.specs.declared.frame.Kind.{Kind}
use Rattle.pw_frame.specs.declared.frame.Kind.TheVariants.{Telegram, Readout}
use Rattle.pw_frame.specs.Frame.{FrameText}
use Rattle.pw_frame.specs.Body.{Front, BodyReading, BodyFault}
use Rattle.pw_obis.specs.Line.{SetText}
use Rattle.pw_obis.specs.Block.{HasSets}
use Rattle.pw_time.specs.declared.zone.Clock.{Clock}
use Rattle.pw_time.specs.Outcomes.{IsUtcOutcome}
use Rattle.pw_read.specs.Lines.{line_of, SetShows, SetsShow}
use Rattle.pw_read.specs.Instant.{IsFrameInstant}
use Rattle.pw_read.specs.declared.fault.Cause.{Cause}
use Rattle.pw_read.specs.declared.fault.Cause.TheVariants.{Frame as FrameCause, Line, Value, Instant}
use Rattle.pw_read.specs.declared.fault.ReadFault.{ReadFault}
use Rattle.pw_read.specs.declared.fault.ReadFault.TheVariants.{Memory, Refused}
use Rattle.pw_obis.specs.declared.value.ValueFault.{ValueFault}

-- the first line of a frame: its kind, `/` and its header
abbrev pub kind_name : Kind → List ℕ
kind_name Telegram = codes "telegram /"
kind_name Readout = codes "readout /"

abbrev pub heading : FrameText → List ℕ
heading frame = kind_name frame.kind ++ frame.header ++ codes "\n"

-- the instant in UTC is the last line, where there is one
abbrev pub InstantShows : Option ℕ → List ℕ → Type 0
InstantShows None line = line ≡ []
InstantShows (Some instant) line = (text : List ℕ) × IsUtcOutcome text (Ok instant) × (line ≡ line_of (codes "instant") text)

-- all lines of the frame's block are in the grammar, and this is printed of the frame, whose clock is the stated one
pub record FrameShows (clock : Clock) (frame : FrameText) (text : List ℕ) : Type 0 where
  pub sets : List SetText
  pub lines : List ℕ
  pub instant : Option ℕ
  pub last : List ℕ
  pub has : HasSets frame.block sets None
  pub shown : SetsShow frame.kind sets lines
  pub instant_is : IsFrameInstant frame.kind clock sets (Ok instant)
  pub last_is : InstantShows instant last
  pub text_is : text ≡ (heading frame ++ lines) ++ last

-- one set's value is wrong, and those of the sets before it are right
pub record FirstWrong (kind : Kind) (sets : List SetText) (fault : ValueFault) : Type 0 where
  pub before : List SetText
  pub wrong : SetText
  pub behind : List SetText
  pub shown : List ℕ
  pub sets_are : sets ≡ before ++ wrong ∷ behind
  pub right : SetsShow kind before shown
  pub fault_is : SetShows kind wrong (Err fault)

-- a frame is refused for a line of its block, and else for the first wrong value, and else for its instant
abbrev pub FrameRefused : Clock → FrameText → Cause → Type 0
FrameRefused clock frame (FrameCause fault) = ⊥
FrameRefused clock frame (Line fault) = (sets : List SetText) × HasSets frame.block sets (Some fault.at)
FrameRefused clock frame (Value fault) = (sets : List SetText) × HasSets frame.block sets None × FirstWrong frame.kind sets fault
FrameRefused clock frame (Instant fault) =
    (sets : List SetText) × (lines : List ℕ) × HasSets frame.block sets None × SetsShow frame.kind sets lines × IsFrameInstant frame.kind clock sets (Err fault)

-- what is printed of frames, one after the other
abbrev pub FramesShow : Clock → List FrameText → List ℕ → Type 0
FramesShow clock [] text = text ≡ []
FramesShow clock (frame ∷ frames) text =
    (first : List ℕ) × (more : List ℕ) × FrameShows clock frame first × FramesShow clock frames more × (text ≡ first ++ more)

-- behind the frames stands one more that is refused
pub record NextRefused (clock : Clock) (body : List ℕ) (frames : List FrameText) (cause : Cause) : Type 0 where
  pub frame : FrameText
  pub place : ℕ
  pub front : Front body (frames ++ frame ∷ []) place
  pub refused : FrameRefused clock frame cause

-- behind the frames stands no frame, or one that is refused
abbrev pub Stops : Clock → List ℕ → List FrameText → Cause → Type 0
Stops clock body frames (FrameCause fault) = BodyFault body frames fault
Stops clock body frames (Line fault) = NextRefused clock body frames (Line fault)
Stops clock body frames (Value fault) = NextRefused clock body frames (Value fault)
Stops clock body frames (Instant fault) = NextRefused clock body frames (Instant fault)

-- the body is refused at its part number `part`, counted from 1
pub record BodyRefused (clock : Clock) (body : List ℕ) (part : ℕ) (cause : Cause) : Type 0 where
  pub frames : List FrameText
  pub shown : List ℕ
  pub right : FramesShow clock frames shown
  pub part_is : part ≡ length frames + 1
  pub stops : Stops clock body frames cause

pub record BodyShows (clock : Clock) (body text : List ℕ) : Type 0 where
  pub frames : List FrameText
  pub reading : BodyReading body frames
  pub shown : FramesShow clock frames text

-- want of memory says nothing of the body
abbrev pub BodyFails : Clock → List ℕ → ReadFault → Type 0
BodyFails clock body Memory = Unit {0}
BodyFails clock body (Refused refusal) = BodyRefused clock body refusal.part refusal.cause
