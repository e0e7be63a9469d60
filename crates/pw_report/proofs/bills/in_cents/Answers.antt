use Rattle.std.proofs.Common.{rules}
use Rattle.pw_report.proofs.bills.in_cents.Goals as goal

pub returns-clause-cents : goal.returns-clause-cents
returns-clause-cents c = search rules depth 0 fits 100
