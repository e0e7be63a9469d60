use Rattle.std.proofs.Common.{rules}
use Rattle.pw_record.proofs.cents.cents.Goals as goal

pub returns-in-Some-clause-some : goal.returns-in-Some-clause-some
returns-in-Some-clause-some c = search rules depth 0 fits 100
