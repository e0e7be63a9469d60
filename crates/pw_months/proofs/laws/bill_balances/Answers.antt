use Rattle.pw_months.proofs.BillSums.{bill-balances}
use Rattle.pw_months.proofs.laws.bill_balances.Goals as goal

pub returns : goal.returns
returns c = bill-balances
