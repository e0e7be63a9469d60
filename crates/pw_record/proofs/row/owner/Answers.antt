use Rattle.std.proofs.Common.{rules}
use Rattle.pw_record.proofs.row.owner.Goals as goal

pub returns-clause-some : goal.returns-clause-some
returns-clause-some c = search rules depth 0 fits 100
