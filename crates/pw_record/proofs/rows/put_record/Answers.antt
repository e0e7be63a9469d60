use Rattle.std.proofs.Common.{rules}
use Rattle.pw_record.proofs.rows.put_record.Goals as goal

pub returns-clause-ok : goal.returns-clause-ok
returns-clause-ok c = search rules depth 3 fits 300
