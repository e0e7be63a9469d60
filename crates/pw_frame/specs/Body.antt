-- A body: CR LF pairs, then frames of either kind, each followed by CR LF pairs.
use Rattle.std.specs.Prelude.{◌≡◌, ℕ, ◌+◌, ◌*◌, ◌<◌, Bool, List, [], ◌∷◌, length, drop, slice_index}
use Rattle.pw_frame.specs.declared.frame.FrameFault.{FrameFault}
use Rattle.pw_frame.specs.Frame.{FrameText, Whole}
use Rattle.pw_frame.specs.FirstFault.{IsFault}
use Rattle.pw_frame.specs.Bytes.{LF, CR}

abbrev pub PairAt : List ℕ → ℕ → Type 0
PairAt body place = (slice_index body place ≡ CR) × (slice_index body (place + 1) ≡ LF)

-- CR LF pairs stand from `from` up to `to`, and none at `to`
pub record PairsBetween (body : List ℕ) (from to : ℕ) : Type 0 where
  pub count : ℕ
  pub place : to ≡ from + 2 * count
  pub pairs : (i : ℕ) → i < count → PairAt body (from + 2 * i)
  pub more : PairAt body to → ⊥

pub record NextFrame (body : List ℕ) (from : ℕ) (frame : FrameText) (to : ℕ) : Type 0 where
  pub size : ℕ
  pub whole : Whole (drop from body) frame size
  pub gap : PairsBetween body (from + size) to

-- from `from` up to `to` stand the whole frames, each followed by its pairs
abbrev pub FramesFrom : List ℕ → ℕ → List FrameText → ℕ → Type 0
FramesFrom body from [] to = from ≡ to
FramesFrom body from (frame ∷ frames) to = (next : ℕ) × NextFrame body from frame next × FramesFrom body next frames to

-- the first `place` bytes are pairs and these frames, and no pair stands at `place`
pub record Front (body : List ℕ) (frames : List FrameText) (place : ℕ) : Type 0 where
  pub start : ℕ
  pub gap : PairsBetween body 0 start
  pub frames_are : FramesFrom body start frames place

-- the frames reach to the body's end
pub record BodyReading (body : List ℕ) (frames : List FrameText) : Type 0 where
  pub front : Front body frames (length body)
  pub some : frames ≡ [] → ⊥

-- behind the frames stands no whole frame, and what is wrong there is the fault
pub record BodyFault (body : List ℕ) (frames : List FrameText) (fault : FrameFault) : Type 0 where
  pub place : ℕ
  pub front : Front body frames place
  pub no_frame : (frame : FrameText) (size : ℕ) → Whole (drop place body) frame size → ⊥
  pub no_reading : BodyReading body frames → ⊥
  pub first : IsFault (drop place body) place fault

-- what a contract sees of the frames that are still to be read
pub record Progress : Type 0 where
  pub body : List ℕ
  pub place : ℕ
  pub ended : Bool
