use Rattle.pw_moving.proofs.Placed.{names-come_back}
use Rattle.pw_moving.proofs.laws.names_come_back.Goals as goal

pub returns : goal.returns
returns c = names-come_back
