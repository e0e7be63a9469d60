use Rattle.std.proofs.Common.{rules}
use Rattle.pw_schema.proofs.cells.number_at.Goals as goal

pub returns-in-Ok-Int-clause-none : goal.returns-in-Ok-Int-clause-none
returns-in-Ok-Int-clause-none c = search rules depth 0 fits 100
