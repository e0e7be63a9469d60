use Rattle.std.proofs.Common.{rules}
use Rattle.pw_schema.proofs.make.create.Goals as goal

pub returns-clause-idle : goal.returns-clause-idle
returns-clause-idle g c = search rules depth 0 fits 100
