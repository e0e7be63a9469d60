-- The numbers and names under which faults are reported.
use Rattle.std.specs.Prelude.{ℕ, List, codes}
use Rattle.pw_obis.specs.declared.value.ValueFault.{ValueFault}
use Rattle.pw_obis.specs.declared.value.ValueFault.TheVariants.{Digits, Unit as UnitFault, TooLarge}

abbrev pub line_fault_told : ℕ × List ℕ
line_fault_told = (20, codes "Line")

abbrev pub value_fault_told : ValueFault → ℕ × List ℕ
value_fault_told Digits = (21, codes "Digits")
value_fault_told UnitFault = (22, codes "Unit")
value_fault_told TooLarge = (23, codes "TooLarge")
