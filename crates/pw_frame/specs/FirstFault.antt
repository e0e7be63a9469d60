-- What is wrong where no whole frame stands: the first of the faults, in the order of a frame's bytes.
use Rattle.std.specs.Prelude.{◌≡◌, ℕ, ◌+◌, ◌<◌, ◌≤◌, ◌⊎◌, List, slice_index}
use Rattle.pw_frame.specs.declared.frame.Kind.{Kind}
use Rattle.pw_frame.specs.declared.frame.Kind.TheVariants.{Telegram, Readout}
use Rattle.pw_frame.specs.declared.frame.FrameFault.{FrameFault}
use Rattle.pw_frame.specs.declared.frame.FrameFault.TheVariants.{Header, NoEnd, Crc, Trailer, BlockCheck, HighBit}
use Rattle.pw_frame.specs.Frame.{HeaderEnd, Head, Plain, Framed, FrameEnding, Checks, block_start}
use Rattle.pw_frame.specs.Bytes.{CR, SLASH}

-- a header with a byte that doesn't fit it, none of them above 7F, or with neither an empty line nor STX behind it
pub record BadHeader (rest : List ℕ) : Type 0 where
  pub end : ℕ
  pub header : HeaderEnd rest end
  pub low : slice_index rest end < 128
  pub next : 5 ≤ end → slice_index rest end ≡ CR → slice_index rest (end + 1) < 128
  pub bad : (kind : Kind) → Head rest kind end → ⊥

-- the first byte that doesn't fit the header is above 7F: it stands in place of a character or of CR ..
pub record HighHeader (rest : List ℕ) (i : ℕ) : Type 0 where
  pub header : HeaderEnd rest i
  pub high : 128 ≤ slice_index rest i

-- .. or of LF
pub record HighLine (rest : List ℕ) (i : ℕ) : Type 0 where
  pub end : ℕ
  pub header : HeaderEnd rest end
  pub long : 5 ≤ end
  pub cr : slice_index rest end ≡ CR
  pub place : i ≡ end + 1
  pub high : 128 ≤ slice_index rest i

-- in the search for the block's end the byte at `i` is the first above 7F
pub record HighBlock (rest : List ℕ) (i : ℕ) : Type 0 where
  pub kind : Kind
  pub end : ℕ
  pub head : Head rest kind end
  pub from : block_start kind end ≤ i
  pub before : Plain rest (block_start kind end) i
  pub high : 128 ≤ slice_index rest i

-- the block has no end
pub record Endless (rest : List ℕ) : Type 0 where
  pub kind : Kind
  pub end : ℕ
  pub head : Head rest kind end
  pub plain : (stop : ℕ) → Plain rest (block_start kind end) stop

-- what follows `!` isn't what the frame's kind asks for, or is cut
pub record BadEnding (rest : List ℕ) : Type 0 where
  pub kind : Kind
  pub header_end : ℕ
  pub block_end : ℕ
  pub framed : Framed rest kind header_end block_end
  pub bad : (stated : ℕ) → FrameEnding kind rest block_end stated → ⊥

-- the stated check isn't the right one
pub record BadCheck (kind : Kind) (rest : List ℕ) (stated computed : ℕ) : Type 0 where
  pub header_end : ℕ
  pub block_end : ℕ
  pub framed : Framed rest kind header_end block_end
  pub ending : FrameEnding kind rest block_end stated
  pub right : Checks kind rest header_end block_end computed
  pub unlike : stated ≡ computed → ⊥

-- The fault of a frame that should begin where `rest` does, `place` bytes from the body's start. It is told at that
-- place, and a byte above 7F at its own.
abbrev pub IsFault : List ℕ → ℕ → FrameFault → Type 0
IsFault rest place (Header at) = (at ≡ place) × ((slice_index rest 0 ≡ SLASH → ⊥) ⊎ BadHeader rest)
IsFault rest place (NoEnd at) = (at ≡ place) × Endless rest
IsFault rest place (Crc at stated computed) = (at ≡ place) × BadCheck Telegram rest stated computed
IsFault rest place (Trailer at) = (at ≡ place) × BadEnding rest
IsFault rest place (BlockCheck at stated computed) = (at ≡ place) × BadCheck Readout rest stated computed
IsFault rest place (HighBit at) = (i : ℕ) × (at ≡ place + i) × (HighHeader rest i ⊎ (HighLine rest i ⊎ HighBlock rest i))
