use Rattle.std.proofs.Common.{rules}
use Rattle.pw_schema.proofs.cells.amount_at.Goals as goal

pub returns-in-Ok-Int-clause-some : goal.returns-in-Ok-Int-clause-some
returns-in-Ok-Int-clause-some c = search rules depth 0 fits 100
