-- The line that tells why an upload is refused: `refused`, the number, the name, `part` with its number; for 10 to 15 then
-- `at` with the place; for 12 and 14 then the stated and the computed check. Single spaces stand between.
use Rattle.std.specs.Prelude.{ℕ, List, Option, Some, None, codes}
use Rattle.pw_frame.specs.declared.frame.FrameFault.{FrameFault}
use Rattle.pw_frame.specs.Faults.{part_line}
use Rattle.pw_frame.specs.Faults as frame_fault
use Rattle.pw_obis.specs.Faults as obis_fault
use Rattle.pw_time.specs.Faults as stamp_fault
use Rattle.pw_record.specs.declared.fault.Cause.{Cause}
use Rattle.pw_record.specs.declared.fault.Cause.TheVariants.{Instant, Frame, Line, Value, NoMeter, UnknownMeter, WrongKind, NoInstant, RegisterTwice, NoRegister, UnknownAccount, CsvForm, Header, Cents, Reference, TooManyParts, TwiceGiven, Kind, RegisterName, Memory}
use Rattle.pw_record.specs.declared.fault.UploadFault.{UploadFault}

abbrev pub cause_told : Cause → ℕ × List ℕ
cause_told (Instant fault) = stamp_fault.stamp_fault_told fault
cause_told (Frame fault) = frame_fault.frame_fault_told fault
cause_told (Line fault) = obis_fault.line_fault_told
cause_told (Value fault) = obis_fault.value_fault_told fault
cause_told NoMeter = (40, codes "NoMeter")
cause_told UnknownMeter = (41, codes "UnknownMeter")
cause_told WrongKind = (42, codes "WrongKind")
cause_told NoInstant = (43, codes "NoInstant")
cause_told RegisterTwice = (44, codes "RegisterTwice")
cause_told NoRegister = (45, codes "NoRegister")
cause_told UnknownAccount = (46, codes "UnknownAccount")
cause_told CsvForm = (47, codes "CsvForm")
cause_told Header = (48, codes "Header")
cause_told Cents = (49, codes "Cents")
cause_told Reference = (50, codes "Reference")
cause_told TooManyParts = (51, codes "TooManyParts")
cause_told TwiceGiven = (52, codes "TwiceGiven")
cause_told Kind = (53, codes "Kind")
cause_told RegisterName = (54, codes "RegisterName")
cause_told Memory = (62, codes "Memory")

-- the fault of a part where no frame stands
abbrev pub missing_frame : Cause → Option FrameFault
missing_frame (Frame fault) = Some fault
missing_frame _ = None

abbrev pub fault_line : UploadFault → List ℕ
fault_line fault = part_line (cause_told fault.cause).0 (cause_told fault.cause).1 fault.part (missing_frame fault.cause)

-- want of memory: its part is always 0
abbrev pub want_of_memory : UploadFault
want_of_memory = record { part = 0; cause = Memory }
