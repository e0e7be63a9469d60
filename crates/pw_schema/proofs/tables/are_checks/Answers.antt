use Rattle.std.proofs.Common.{rules}
use Rattle.pw_schema.proofs.tables.are_checks.Goals as goal

pub returns-in-Office-clause-is : goal.returns-in-Office-clause-is
returns-in-Office-clause-is c = search rules depth 0 fits 100
