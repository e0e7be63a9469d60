use Rattle.pw_model.proofs.Whole.{nothing-is_lost}
use Rattle.pw_model.proofs.laws.conservation_of_energy.Goals as goal

pub returns : goal.returns
returns c = nothing-is_lost
