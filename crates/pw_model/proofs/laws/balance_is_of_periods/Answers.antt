use Rattle.pw_model.proofs.Periods.{balance-of_periods}
use Rattle.pw_model.proofs.laws.balance_is_of_periods.Goals as goal

pub returns : goal.returns
returns c = balance-of_periods
