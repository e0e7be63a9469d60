-- The numbers and names under which faults are reported.
use Rattle.std.specs.Prelude.{ℕ, List, codes}
use Rattle.pw_time.specs.declared.fault.StampFault.{StampFault}
use Rattle.pw_time.specs.declared.fault.StampFault.TheVariants.{Form, NoSuchDate, NoSuchTime, Mark, Range, Gap, Fold}

abbrev pub stamp_fault_told : StampFault → ℕ × List ℕ
stamp_fault_told Form = (1, codes "Form")
stamp_fault_told NoSuchDate = (2, codes "NoSuchDate")
stamp_fault_told NoSuchTime = (3, codes "NoSuchTime")
stamp_fault_told Mark = (4, codes "Mark")
stamp_fault_told Range = (5, codes "Range")
stamp_fault_told Gap = (6, codes "Gap")
stamp_fault_told Fold = (7, codes "Fold")
