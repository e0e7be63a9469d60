use Rattle.pw_months.proofs.Told.{start-reaches}
use Rattle.pw_months.proofs.laws.other_start_reaches_the_next.Goals as goal

pub returns : goal.returns
returns c = start-reaches
