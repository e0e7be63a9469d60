use Rattle.pw_flow.proofs.Neighbours.{neighbours-found}
use Rattle.pw_flow.proofs.laws.neighbours_are_found.Goals as goal

pub returns : goal.returns
returns c = neighbours-found
