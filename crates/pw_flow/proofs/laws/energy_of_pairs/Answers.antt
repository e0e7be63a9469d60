use Rattle.pw_flow.proofs.Pairs.{energy-pairs}
use Rattle.pw_flow.proofs.laws.energy_of_pairs.Goals as goal

pub returns : goal.returns
returns c = energy-pairs
