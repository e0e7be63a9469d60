use Rattle.std.proofs.Common.{rules}
use Rattle.pw_time.proofs.fault.StampFault.told.Goals as goal

pub returns-in-Gap-clause-name : goal.returns-in-Gap-clause-name
returns-in-Gap-clause-name c = search rules depth 0 fits 100

pub returns-in-Gap-clause-number : goal.returns-in-Gap-clause-number
returns-in-Gap-clause-number c = search rules depth 0 fits 100
