-- A whole frame: a telegram (DSMR P1 Companion Standard 5.0.2, format of the P1 telegram) or a data readout
-- (IEC 62056-21, data message).
-- `rest` is what a body has from the frame's first byte on, and a place in it counts from there. Past the end each place
-- reads 0, which is no byte of a frame's framework.
use Rattle.std.specs.Prelude.{◌≡◌, ℕ, ◌+◌, ◌*◌, ◌<◌, ◌≤◌, ◌⊎◌, List, length, take, slice_index, slice_range}
use Rattle.pw_frame.specs.declared.frame.Kind.{Kind}
use Rattle.pw_frame.specs.declared.frame.Kind.TheVariants.{Telegram, Readout}
use Rattle.pw_frame.specs.declared.frame.Frame.{Frame}
use Rattle.pw_frame.specs.Crc.{crc_of}
use Rattle.pw_frame.specs.Check.{IsBlockCheck}
use Rattle.pw_frame.specs.Bytes.{STX, ETX, LF, CR, EXCLAMATION_MARK, SLASH}

-- a frame without where it lies in memory
pub record FrameText : Type 0 where
  pub kind : Kind
  pub header : List ℕ
  pub block : List ℕ

abbrev pub frame_text : Frame → FrameText
frame_text frame = record { kind = frame.kind; header = frame.header.now; block = frame.block.now }

-- ---- the header: `/`, characters from 20 to 7E hexadecimal, four at least, CR LF, and what tells the frame's kind

abbrev pub IsCharacter : ℕ → Type 0
IsCharacter byte = (32 ≤ byte) × (byte ≤ 126)

-- `end` is the first place behind `/` that holds no character
pub record HeaderEnd (rest : List ℕ) (end : ℕ) : Type 0 where
  pub slash : slice_index rest 0 ≡ SLASH
  pub after : 1 ≤ end
  pub before : (i : ℕ) → 1 ≤ i → i < end → IsCharacter (slice_index rest i)
  pub here : IsCharacter (slice_index rest end) → ⊥

-- an empty line opens a telegram, STX a readout
abbrev pub Opens : Kind → List ℕ → ℕ → Type 0
Opens Telegram rest at = (slice_index rest at ≡ CR) × (slice_index rest (at + 1) ≡ LF)
Opens Readout rest at = slice_index rest at ≡ STX

pub record Head (rest : List ℕ) (kind : Kind) (end : ℕ) : Type 0 where
  pub header : HeaderEnd rest end
  pub long : 5 ≤ end
  pub cr : slice_index rest end ≡ CR
  pub lf : slice_index rest (end + 1) ≡ LF
  pub opens : Opens kind rest (end + 2)

-- where the block begins behind a header that ends at `end`
abbrev pub block_start : Kind → ℕ → ℕ
block_start Telegram end = end + 4
block_start Readout end = end + 3

-- ---- the block: it ends before the first `!` at its start or directly behind CR LF

pub record BehindLine (rest : List ℕ) (start i : ℕ) : Type 0 where
  pub cr_at : ℕ
  pub within : start ≤ cr_at
  pub place : i ≡ cr_at + 2
  pub cr : slice_index rest cr_at ≡ CR
  pub lf : slice_index rest (cr_at + 1) ≡ LF

abbrev pub EndsAt : List ℕ → ℕ → ℕ → Type 0
EndsAt rest start i = (slice_index rest i ≡ EXCLAMATION_MARK) × ((i ≡ start) ⊎ BehindLine rest start i)

-- no end and no byte above 7F stands from `start` up to and without `stop`
pub record Plain (rest : List ℕ) (start stop : ℕ) : Type 0 where
  pub endless : (i : ℕ) → start ≤ i → i < stop → EndsAt rest start i → ⊥
  pub seven : (i : ℕ) → start ≤ i → i < stop → slice_index rest i < 128

pub record BlockEnd (rest : List ℕ) (start end : ℕ) : Type 0 where
  pub from : start ≤ end
  pub before : Plain rest start end
  pub here : EndsAt rest start end

-- a header, and a block behind it that ends before `!`
pub record Framed (rest : List ℕ) (kind : Kind) (header_end block_end : ℕ) : Type 0 where
  pub head : Head rest kind header_end
  pub block : BlockEnd rest (block_start kind header_end) block_end

-- ---- behind `!`

abbrev pub IsHexadecimalDigit : ℕ → ℕ → Type 0
IsHexadecimalDigit byte digit = ((digit < 10) × (byte ≡ 48 + digit)) ⊎ ((10 ≤ digit) × (digit < 16) × ((byte ≡ 55 + digit) ⊎ (byte ≡ 87 + digit)))

-- of a telegram: four hexadecimal digits in either letter case, the most significant first, and CR LF
pub record StatedCrc (rest : List ℕ) (end stated : ℕ) : Type 0 where
  pub a : ℕ
  pub b : ℕ
  pub c : ℕ
  pub d : ℕ
  pub first : IsHexadecimalDigit (slice_index rest (end + 1)) a
  pub second : IsHexadecimalDigit (slice_index rest (end + 2)) b
  pub third : IsHexadecimalDigit (slice_index rest (end + 3)) c
  pub fourth : IsHexadecimalDigit (slice_index rest (end + 4)) d
  pub value : stated ≡ 4096 * a + 256 * b + 16 * c + d
  pub cr : slice_index rest (end + 5) ≡ CR
  pub lf : slice_index rest (end + 6) ≡ LF

-- of a readout: CR, LF, ETX, and the check character, which is one byte of any value
pub record StatedCheck (rest : List ℕ) (end stated : ℕ) : Type 0 where
  pub cr : slice_index rest (end + 1) ≡ CR
  pub lf : slice_index rest (end + 2) ≡ LF
  pub etx : slice_index rest (end + 3) ≡ ETX
  pub there : end + 4 < length rest
  pub value : stated ≡ slice_index rest (end + 4)

abbrev pub FrameEnding : Kind → List ℕ → ℕ → ℕ → Type 0
FrameEnding Telegram rest end stated = StatedCrc rest end stated
FrameEnding Readout rest end stated = StatedCheck rest end stated

-- the bytes from `!` to the frame's end
abbrev pub ending_size : Kind → ℕ
ending_size Telegram = 7
ending_size Readout = 5

-- The right check: of a telegram the CRC16 of all bytes from `/` through `!`, of a readout the block check of all bytes
-- behind STX through ETX.
abbrev pub Checks : Kind → List ℕ → ℕ → ℕ → ℕ → Type 0
Checks Telegram rest header_end block_end check = check ≡ crc_of (take (block_end + 1) rest)
Checks Readout rest header_end block_end check = IsBlockCheck (slice_range rest (header_end + 3) (block_end + 4)) check

-- ---- a whole frame of `size` bytes

pub record Whole (rest : List ℕ) (frame : FrameText) (size : ℕ) : Type 0 where
  pub header_end : ℕ
  pub block_end : ℕ
  pub check : ℕ
  pub framed : Framed rest frame.kind header_end block_end
  pub stated : FrameEnding frame.kind rest block_end check
  pub right : Checks frame.kind rest header_end block_end check
  pub whole : size ≡ block_end + ending_size frame.kind
  pub header_is : frame.header ≡ slice_range rest 1 header_end
  pub block_is : frame.block ≡ slice_range rest (block_start frame.kind header_end) block_end
