use Rattle.std.proofs.Common.{rules}
use Rattle.pw_bills.proofs.billed.cost_behind.Goals as goal

pub returns-then-until-lt-END_SECOND-clause-some : goal.returns-then-until-lt-END_SECOND-clause-some
returns-then-until-lt-END_SECOND-clause-some c = search rules depth 0 fits 100
