use Rattle.std.proofs.Common.{rules}
use Rattle.pw_record.proofs.fault.Cause.told.Goals as goal

pub returns-in-CsvForm-clause-name : goal.returns-in-CsvForm-clause-name
returns-in-CsvForm-clause-name c = search rules depth 0 fits 100

pub returns-in-Cents-clause-number : goal.returns-in-Cents-clause-number
returns-in-Cents-clause-number c = search rules depth 0 fits 100

pub returns-in-Kind-clause-number : goal.returns-in-Kind-clause-number
returns-in-Kind-clause-number c = search rules depth 0 fits 100

pub returns-in-RegisterName-clause-name : goal.returns-in-RegisterName-clause-name
returns-in-RegisterName-clause-name c = search rules depth 0 fits 100
