use Rattle.pw_flow.proofs.Insert.{energy-more}
use Rattle.pw_flow.proofs.laws.one_more_point.Goals as goal

pub returns : goal.returns
returns c = energy-more
