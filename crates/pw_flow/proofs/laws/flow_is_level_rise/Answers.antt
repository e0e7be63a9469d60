use Rattle.pw_flow.proofs.Neighbours.{flow-rises}
use Rattle.pw_flow.proofs.laws.flow_is_level_rise.Goals as goal

pub returns : goal.returns
returns c = flow-rises
