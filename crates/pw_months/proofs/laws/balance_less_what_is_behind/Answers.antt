use Rattle.pw_months.proofs.BillSums.{balance-behind}
use Rattle.pw_months.proofs.laws.balance_less_what_is_behind.Goals as goal

pub returns : goal.returns
returns c = balance-behind
