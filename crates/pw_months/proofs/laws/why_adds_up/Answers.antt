use Rattle.pw_months.proofs.RowSums.{why-adds_up}
use Rattle.pw_months.proofs.laws.why_adds_up.Goals as goal

pub returns : goal.returns
returns c = why-adds_up
