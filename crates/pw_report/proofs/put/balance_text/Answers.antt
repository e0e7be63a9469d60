use Rattle.std.proofs.Common.{rules}
use Rattle.pw_report.proofs.put.balance_text.Goals as goal

pub returns : goal.returns
returns c = search rules depth 3 fits 300
