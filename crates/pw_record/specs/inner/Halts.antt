-- The fault of an upload by what stops one of its parts. It serves `src/fault.rt`.
use Rattle.std.specs.Prelude.{ℕ}
use Rattle.pw_record.specs.declared.fault.Halt.{Halt}
use Rattle.pw_record.specs.declared.fault.Halt.TheVariants.{Memory, Refused}
use Rattle.pw_record.specs.declared.fault.UploadFault.{UploadFault}
use Rattle.pw_record.specs.Causes.{want_of_memory}

-- a refusal is told with the part's number, want of memory with none
abbrev pub fault_of_part : Halt → ℕ → UploadFault
fault_of_part Memory part = want_of_memory
fault_of_part (Refused cause) part = record { part = part; cause = cause }
