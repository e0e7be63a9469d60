-- What the search for a block's end answers. It serves `src/search.rt` alone.
use Rattle.std.specs.Prelude.{◌≡◌, ℕ, ◌+◌, ◌≤◌, List, slice_index}
use Rattle.pw_frame.specs.declared.frame.FrameFault.{FrameFault}
use Rattle.pw_frame.specs.declared.frame.FrameFault.TheVariants.{Header, NoEnd, Crc, Trailer, BlockCheck, HighBit}
use Rattle.pw_frame.specs.Frame.{Plain}

-- the faults that the search for the end of a block that begins at `start` can find
abbrev pub IsBlockFault : List ℕ → ℕ → ℕ → FrameFault → Type 0
IsBlockFault rest start place (NoEnd at) = (at ≡ place) × ((stop : ℕ) → Plain rest start stop)
IsBlockFault rest start place (HighBit at) = (i : ℕ) × (at ≡ place + i) × (start ≤ i) × Plain rest start i × (128 ≤ slice_index rest i)
IsBlockFault rest start place (Header at) = ⊥
IsBlockFault rest start place (Crc at stated computed) = ⊥
IsBlockFault rest start place (Trailer at) = ⊥
IsBlockFault rest start place (BlockCheck at stated computed) = ⊥
