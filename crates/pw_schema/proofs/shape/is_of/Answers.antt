use Rattle.std.proofs.Common.{rules}
use Rattle.pw_schema.proofs.shape.is_of.Goals as goal

pub returns-then-are_of_tables : goal.returns-then-are_of_tables
returns-then-are_of_tables c = search rules depth 0 fits 100
