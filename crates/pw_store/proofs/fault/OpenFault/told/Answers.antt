use Rattle.std.proofs.Common.{rules}
use Rattle.pw_store.proofs.fault.OpenFault.told.Goals as goal

pub returns-in-Version-clause-name : goal.returns-in-Version-clause-name
returns-in-Version-clause-name c = search rules depth 0 fits 100

pub returns-in-OfficeDiffers-clause-number : goal.returns-in-OfficeDiffers-clause-number
returns-in-OfficeDiffers-clause-number c = search rules depth 0 fits 100
