use Rattle.std.proofs.Common.{rules}
use Rattle.pw_tariff.proofs.read.table_of.Goals as goal

pub returns-then-is_memory : goal.returns-then-is_memory
returns-then-is_memory c = search rules depth 0 fits 100
