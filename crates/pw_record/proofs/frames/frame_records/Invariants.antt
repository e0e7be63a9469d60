use Rattle.std.proofs.Common.{◌≡◌, ◌+◌, ◌-◌, ◌≤◌, List, false, length}
use Rattle.pw_frame.specs.Frame.{FrameText}
use Rattle.pw_frame.specs.Body.{Front}
use Rattle.pw_record.specs.declared.frames.TheConstants.{MOST_FRAMES}
use Rattle.pw_record.specs.Frames.{FramesGive}
use Rattle.pw_record.proofs.frames.frame_records.Given as goal

abbrev pub invariant-frames : goal.invariant-frames
invariant-frames l =
    (before : List FrameText) × Front l.frames.body before l.frames.place × (l.frames.ended ≡ false) × (l.frames.body ≡ l.body)
    × FramesGive l.basis.office.now l.basis.source before l.given.items × (l.part ≡ length before + 1) × (l.part ≤ MOST_FRAMES + 1)

abbrev pub decreases-frames : goal.decreases-frames
decreases-frames l = length l.frames.body - l.frames.place
