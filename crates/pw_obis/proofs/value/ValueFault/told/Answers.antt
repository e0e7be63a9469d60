use Rattle.std.proofs.Common.{rules}
use Rattle.pw_obis.proofs.value.ValueFault.told.Goals as goal

pub returns-in-TooLarge-clause-name : goal.returns-in-TooLarge-clause-name
returns-in-TooLarge-clause-name c = search rules depth 0 fits 100

pub returns-in-Unit-clause-number : goal.returns-in-Unit-clause-number
returns-in-Unit-clause-number c = search rules depth 0 fits 100
