use Rattle.pw_model.proofs.Periods.{energy-of_periods}
use Rattle.pw_model.proofs.laws.energy_is_of_periods.Goals as goal

pub returns : goal.returns
returns c = energy-of_periods
