use Rattle.std.proofs.Common.{rules}
use Rattle.pw_bills.proofs.billing.flowed.Goals as goal

pub returns-in-Some-clause-flows : goal.returns-in-Some-clause-flows
returns-in-Some-clause-flows g c = search rules depth 3 fits 300
