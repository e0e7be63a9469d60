use Rattle.std.proofs.Common.{rules}
use Rattle.pw_schema.proofs.kept.KeptTotals.new.Goals as goal

pub returns-clause-kind : goal.returns-clause-kind
returns-clause-kind c = search rules depth 0 fits 100
