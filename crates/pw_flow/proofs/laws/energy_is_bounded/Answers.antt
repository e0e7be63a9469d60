use Rattle.pw_flow.proofs.Pairs.{energy-bounded}
use Rattle.pw_flow.proofs.laws.energy_is_bounded.Goals as goal

pub returns : goal.returns
returns c = energy-bounded
