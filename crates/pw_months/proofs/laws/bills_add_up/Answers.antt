use Rattle.pw_months.proofs.BillSums.{bills-add_up}
use Rattle.pw_months.proofs.laws.bills_add_up.Goals as goal

pub returns : goal.returns
returns c = bills-add_up
