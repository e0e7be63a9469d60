use Rattle.pw_months.proofs.WorkedBill.{worked-bills}
use Rattle.pw_months.proofs.laws.worked_bills.Goals as goal

pub returns : goal.returns
returns c = worked-bills
