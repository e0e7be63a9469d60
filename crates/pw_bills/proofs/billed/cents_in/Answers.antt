use Rattle.std.proofs.Common.{rules}
use Rattle.pw_bills.proofs.billed.cents_in.Goals as goal

pub returns-then-second-until-clause-cents : goal.returns-then-second-until-clause-cents
returns-then-second-until-clause-cents c = search rules depth 0 fits 100
