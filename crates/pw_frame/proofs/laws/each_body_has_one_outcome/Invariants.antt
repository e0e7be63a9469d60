use Rattle.std.proofs.Common.{◌≡◌, ◌-◌, List, false, length}
use Rattle.pw_frame.specs.Frame.{FrameText}
use Rattle.pw_frame.specs.Body.{Front}
use Rattle.pw_frame.proofs.laws.each_body_has_one_outcome.Given as goal

abbrev pub invariant-frames : goal.invariant-frames
invariant-frames l = (fs : List FrameText) × Front l.frames.body fs l.frames.place × (l.frames.ended ≡ false) × (l.frames.body ≡ l.body)

abbrev pub decreases-frames : goal.decreases-frames
decreases-frames l = length l.frames.body - l.frames.place
