-- The line that tells why a body is refused: `refused`, the number, the name, `part` with its number; for 10 to 15 then
-- `at` with the place; for 12 and 14 then the stated and the computed check. Single spaces stand between.
use Rattle.std.specs.Prelude.{ℕ, List, Option, Some, None}
use Rattle.pw_frame.specs.declared.frame.FrameFault.{FrameFault}
use Rattle.pw_frame.specs.Faults.{part_line}
use Rattle.pw_frame.specs.Faults as frame_fault
use Rattle.pw_obis.specs.Faults as obis_fault
use Rattle.pw_time.specs.Faults as stamp_fault
use Rattle.pw_read.specs.declared.fault.Cause.{Cause}
use Rattle.pw_read.specs.declared.fault.Cause.TheVariants.{Frame, Line, Value, Instant}
use Rattle.pw_read.specs.declared.fault.Refusal.{Refusal}

abbrev pub cause_told : Cause → ℕ × List ℕ
cause_told (Frame fault) = frame_fault.frame_fault_told fault
cause_told (Line fault) = obis_fault.line_fault_told
cause_told (Value fault) = obis_fault.value_fault_told fault
cause_told (Instant fault) = stamp_fault.stamp_fault_told fault

-- the fault of a part where no frame stands
abbrev pub missing_frame : Cause → Option FrameFault
missing_frame (Frame fault) = Some fault
missing_frame (Line fault) = None
missing_frame (Value fault) = None
missing_frame (Instant fault) = None

abbrev pub fault_line : Refusal → List ℕ
fault_line refusal = part_line (cause_told refusal.cause).0 (cause_told refusal.cause).1 refusal.part (missing_frame refusal.cause)
