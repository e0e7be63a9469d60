-- The numbers and names under which faults are reported, and what is told behind them: the place, and of a check
-- that differs the stated and the computed one.
use Rattle.std.specs.Prelude.{ℕ, List, [], ◌++◌, Option, Some, None, codes, decimal}
use Rattle.pw_line.specs.Refused.{refused_line}
use Rattle.pw_frame.specs.declared.frame.FrameFault.{FrameFault}
use Rattle.pw_frame.specs.declared.frame.FrameFault.TheVariants.{Header, NoEnd, Crc, Trailer, BlockCheck, HighBit}
use Rattle.pw_frame.specs.Hexadecimal.{two_digits, four_digits}

abbrev pub frame_fault_told : FrameFault → ℕ × List ℕ
frame_fault_told (Header at) = (10, codes "Header")
frame_fault_told (NoEnd at) = (11, codes "NoEnd")
frame_fault_told (Crc at stated computed) = (12, codes "Crc")
frame_fault_told (Trailer at) = (13, codes "Trailer")
frame_fault_told (BlockCheck at stated computed) = (14, codes "BlockCheck")
frame_fault_told (HighBit at) = (15, codes "HighBit")

abbrev pub place_text : ℕ → List ℕ
place_text at = codes "at " ++ decimal at

abbrev pub checks_text : List ℕ → List ℕ → List ℕ
checks_text stated computed = codes " stated " ++ (stated ++ (codes " computed " ++ computed))

abbrev pub frame_fault_details : FrameFault → List ℕ
frame_fault_details (Header at) = place_text at
frame_fault_details (NoEnd at) = place_text at
frame_fault_details (Crc at stated computed) = place_text at ++ checks_text (four_digits stated) (four_digits computed)
frame_fault_details (Trailer at) = place_text at
frame_fault_details (BlockCheck at stated computed) = place_text at ++ checks_text (two_digits stated) (two_digits computed)
frame_fault_details (HighBit at) = place_text at

-- what stands behind the part's number: of a frame that isn't there its place, and its checks
abbrev pub missing_details : Option FrameFault → List ℕ
missing_details None = []
missing_details (Some fault) = codes " " ++ frame_fault_details fault

-- the line that tells why a part of a body is refused: `refused`, the number, the name, `part` with its number, and for 10
-- to 15 what is told of the frame; single spaces stand between
abbrev pub part_line : ℕ → List ℕ → ℕ → Option FrameFault → List ℕ
part_line number name part missing = refused_line number name ++ (codes " part " ++ (decimal part ++ missing_details missing))
