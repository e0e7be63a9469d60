use Rattle.std.proofs.Common.{rules}
use Rattle.pw_store.proofs.judging.holds_tables.Goals as goal

pub returns-then-not-is_of-clause-all : goal.returns-then-not-is_of-clause-all
returns-then-not-is_of-clause-all g c = search rules depth 0 fits 100
