use Rattle.std.proofs.Common.{rules}
use Rattle.pw_record.proofs.row.withdrawal.Goals as goal

pub returns-in_default-clause-err : goal.returns-in_default-clause-err
returns-in_default-clause-err c = search rules depth 0 fits 100
