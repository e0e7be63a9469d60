use Rattle.std.proofs.Common.{◌≡◌, ◌+◌, ◌-◌, ◌≤◌, List, false, length}
use Rattle.pw_frame.specs.Frame.{FrameText}
use Rattle.pw_frame.specs.Body.{Front}
use Rattle.pw_read.specs.Text.{FramesShow}
use Rattle.pw_read.proofs.frame_text.body_text.Given as goal

abbrev pub invariant-frames : goal.invariant-frames
invariant-frames l =
    (frames : List FrameText) × Front l.frames.body frames l.frames.place × (l.frames.ended ≡ false) × (l.frames.body ≡ l.body)
    × FramesShow l.clock frames l.text.items × (l.part ≡ length frames + 1) × (l.part ≤ l.frames.place + 1)

abbrev pub decreases-frames : goal.decreases-frames
decreases-frames l = length l.frames.body - l.frames.place
