use Rattle.std.proofs.Common.{take}
use Rattle.pw_tariff.specs.Office.{office_of}
use Rattle.pw_model.specs.Office.{AllOfOffice}
use Rattle.pw_model.proofs.plain.of_office.are_of_office.Given as goal

abbrev pub invariant-loop-entry : goal.invariant-loop-entry
invariant-loop-entry l = AllOfOffice (office_of l.terms) (take l.entry-index l.entries)
