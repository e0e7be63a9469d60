use Rattle.std.proofs.Common.{rules}
use Rattle.pw_schema.proofs.cells.direction_of.Goals as goal

pub returns-in-1-clause-some : goal.returns-in-1-clause-some
returns-in-1-clause-some c = search rules depth 0 fits 100
