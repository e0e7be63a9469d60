-- Each body is read in one way.
use Rattle.std.specs.Prelude.{◌≡◌, ℕ, List, Result, Ok, Err}
use Rattle.pw_frame.specs.declared.frame.FrameFault.{FrameFault}
use Rattle.pw_frame.specs.Frame.{FrameText}
use Rattle.pw_frame.specs.Body.{BodyReading, BodyFault}

-- the frames of a body, or those before its fault and the fault
abbrev pub IsOutcome : List ℕ → Result (List FrameText) (List FrameText × FrameFault) → Type 0
IsOutcome body (Ok frames) = BodyReading body frames
IsOutcome body (Err refused) = BodyFault body refused.0 refused.1

-- one reading or one fault
pub record OneOutcome (body : List ℕ) : Type 0 where
  pub outcome : Result (List FrameText) (List FrameText × FrameFault)
  pub holds : IsOutcome body outcome
  pub only : (other : Result (List FrameText) (List FrameText × FrameFault)) → IsOutcome body other → outcome ≡ other
