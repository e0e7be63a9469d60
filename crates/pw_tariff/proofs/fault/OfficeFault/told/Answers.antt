use Rattle.std.proofs.Common.{rules}
use Rattle.pw_tariff.proofs.fault.OfficeFault.told.Goals as goal

pub returns-in-Week-clause-name : goal.returns-in-Week-clause-name
returns-in-Week-clause-name c = search rules depth 0 fits 100

pub returns-in-RegistersOverlap-clause-number : goal.returns-in-RegistersOverlap-clause-number
returns-in-RegistersOverlap-clause-number c = search rules depth 0 fits 100

pub returns-in-Period-clause-name : goal.returns-in-Period-clause-name
returns-in-Period-clause-name c = search rules depth 0 fits 100
