use Rattle.std.proofs.Common.{rules}
use Rattle.pw_bills.proofs.energies.Energies.wh.Goals as goal

pub returns-in-Some : goal.returns-in-Some
returns-in-Some c = search rules depth 0 fits 100
