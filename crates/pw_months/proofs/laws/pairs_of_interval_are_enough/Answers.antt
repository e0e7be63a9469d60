use Rattle.pw_months.proofs.Windows.{pairs-are_enough}
use Rattle.pw_months.proofs.laws.pairs_of_interval_are_enough.Goals as goal

pub returns : goal.returns
returns c = pairs-are_enough
