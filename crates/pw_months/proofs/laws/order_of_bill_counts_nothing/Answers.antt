use Rattle.pw_months.proofs.BillSums.{order-of_bill}
use Rattle.pw_months.proofs.laws.order_of_bill_counts_nothing.Goals as goal

pub returns : goal.returns
returns c = order-of_bill
