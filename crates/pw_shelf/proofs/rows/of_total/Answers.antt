use Rattle.std.proofs.Common.{rules}
use Rattle.pw_shelf.proofs.rows.of_total.Goals as goal

pub returns-in-Ok : goal.returns-in-Ok
returns-in-Ok c = search rules depth 0 fits 100
