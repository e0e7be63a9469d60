use Rattle.std.proofs.Common.{rules}
use Rattle.pw_report.proofs.bills.class_cost.Goals as goal

pub returns-clause-cost : goal.returns-clause-cost
returns-clause-cost c = search rules depth 0 fits 100
