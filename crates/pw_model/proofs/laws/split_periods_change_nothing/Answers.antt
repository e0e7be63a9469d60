use Rattle.pw_model.proofs.Periods.{split-periods}
use Rattle.pw_model.proofs.laws.split_periods_change_nothing.Goals as goal

pub returns : goal.returns
returns c = split-periods
