use Rattle.pw_months.proofs.BillSums.{bill-of_all_time}
use Rattle.pw_months.proofs.laws.bill_of_all_time.Goals as goal

pub returns : goal.returns
returns c = bill-of_all_time
