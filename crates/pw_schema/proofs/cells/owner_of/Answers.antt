use Rattle.std.proofs.Common.{rules}
use Rattle.pw_schema.proofs.cells.owner_of.Goals as goal

pub returns-in_err-position-clause-none : goal.returns-in_err-position-clause-none
returns-in_err-position-clause-none c = search rules depth 0 fits 100
