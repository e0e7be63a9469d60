use Rattle.pw_flow.proofs.Points.{finds-next}
use Rattle.pw_flow.proofs.laws.earliest_behind_is_found.Goals as goal

pub returns : goal.returns
returns g c = finds-next
