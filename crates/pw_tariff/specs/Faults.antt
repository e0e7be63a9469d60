-- The numbers and names under which refusals of an office file are reported, and the line that tells one.
use Rattle.std.specs.Prelude.{ℕ, List, ◌++◌, codes, decimal}
use Rattle.pw_tariff.specs.declared.fault.OfficeFault.{OfficeFault}
use Rattle.pw_tariff.specs.declared.fault.OfficeFault.TheVariants.{Toml, MissingField, BadName, TwiceNamed, Week, Price, RegistersOverlap, Empty, TooMany, Period, Memory}

abbrev pub office_fault_told : OfficeFault → ℕ × List ℕ
office_fault_told Toml = (30, codes "Toml")
office_fault_told MissingField = (31, codes "MissingField")
office_fault_told BadName = (32, codes "BadName")
office_fault_told TwiceNamed = (33, codes "TwiceNamed")
office_fault_told Week = (34, codes "Week")
office_fault_told Price = (35, codes "Price")
office_fault_told RegistersOverlap = (36, codes "RegistersOverlap")
office_fault_told Empty = (37, codes "Empty")
office_fault_told TooMany = (38, codes "TooMany")
office_fault_told Period = (39, codes "Period")
office_fault_told Memory = (62, codes "Memory")

-- `refused`, the number, the name; single spaces stand between
abbrev pub office_fault_line : OfficeFault → List ℕ
office_fault_line fault = codes "refused " ++ (decimal (office_fault_told fault).0 ++ (codes " " ++ (office_fault_told fault).1))
