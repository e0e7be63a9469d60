use Rattle.pw_model.proofs.Energy.{one-more_reading}
use Rattle.pw_model.proofs.laws.one_more_reading.Goals as goal

pub returns : goal.returns
returns c = one-more_reading
