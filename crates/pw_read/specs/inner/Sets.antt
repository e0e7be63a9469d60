-- Why lines of sets, or the text of a frame, can't be written. It serves `src/set_line.rt` and `src/frame_text.rt`.
use Rattle.std.specs.Prelude.{List, Err}
use Rattle.pw_frame.specs.declared.frame.Kind.{Kind}
use Rattle.pw_frame.specs.Frame.{FrameText}
use Rattle.pw_obis.specs.Line.{SetText}
use Rattle.pw_time.specs.declared.zone.Clock.{Clock}
use Rattle.pw_read.specs.declared.fault.Cause.TheVariants.{Frame, Line, Value, Instant}
use Rattle.pw_read.specs.declared.fault.Halt.{Halt}
use Rattle.pw_read.specs.declared.fault.Halt.TheVariants.{Memory, Refused}
use Rattle.pw_read.specs.Lines.{SetShows}
use Rattle.pw_read.specs.Text.{FirstWrong, FrameRefused}

-- want of memory says nothing; else the set's value is wrong
abbrev pub SetHalts : Kind → SetText → Halt → Type 0
SetHalts kind set Memory = Unit {0}
SetHalts kind set (Refused (Frame fault)) = ⊥
SetHalts kind set (Refused (Line fault)) = ⊥
SetHalts kind set (Refused (Value fault)) = SetShows kind set (Err fault)
SetHalts kind set (Refused (Instant fault)) = ⊥

-- the same of the sets of a block
abbrev pub SetsHalt : Kind → List SetText → Halt → Type 0
SetsHalt kind sets Memory = Unit {0}
SetsHalt kind sets (Refused (Frame fault)) = ⊥
SetsHalt kind sets (Refused (Line fault)) = ⊥
SetsHalt kind sets (Refused (Value fault)) = FirstWrong kind sets fault
SetsHalt kind sets (Refused (Instant fault)) = ⊥

-- else the frame is refused
abbrev pub FrameHalts : Clock → FrameText → Halt → Type 0
FrameHalts clock frame Memory = Unit {0}
FrameHalts clock frame (Refused cause) = FrameRefused clock frame cause
