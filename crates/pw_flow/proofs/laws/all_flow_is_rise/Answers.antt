use Rattle.pw_flow.proofs.Whole.{flow-whole}
use Rattle.pw_flow.proofs.laws.all_flow_is_rise.Goals as goal

pub returns : goal.returns
returns c = flow-whole
