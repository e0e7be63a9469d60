use Rattle.std.proofs.Common.{rules}
use Rattle.pw_schema.proofs.cells.register_of.Goals as goal

pub returns-in-5-clause-some : goal.returns-in-5-clause-some
returns-in-5-clause-some c = search rules depth 0 fits 100
