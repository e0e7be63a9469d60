use Rattle.pw_months.proofs.BillSums.{all-bills_add_up}
use Rattle.pw_months.proofs.laws.all_bills_add_up.Goals as goal

pub returns : goal.returns
returns c = all-bills_add_up
