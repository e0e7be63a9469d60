use Rattle.std.proofs.Common.{rules}
use Rattle.pw_report.proofs.bills.put_rounding.Goals as goal

pub returns-then-cents-eq0 : goal.returns-then-cents-eq0
returns-then-cents-eq0 c = search rules

pub returns : goal.returns
returns c = search rules depth 0 fits 100
