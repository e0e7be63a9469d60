use Rattle.pw_months.proofs.Told.{reading-reaches}
use Rattle.pw_months.proofs.laws.one_reading_reaches_its_neighbours.Goals as goal

pub returns : goal.returns
returns c = reading-reaches
