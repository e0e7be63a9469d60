use Rattle.std.proofs.Common.{rules}
use Rattle.pw_report.proofs.bills.cost_text.Goals as goal

pub returns : goal.returns
returns c = search rules depth 0 fits 100
