use Rattle.pw_model.proofs.Bearing.{one-more_bearing}
use Rattle.pw_model.proofs.laws.one_more_bearing.Goals as goal

pub returns : goal.returns
returns c = one-more_bearing
