use Rattle.pw_flow.proofs.Points.{finds-latest}
use Rattle.pw_flow.proofs.laws.latest_is_found.Goals as goal

pub returns : goal.returns
returns g c = finds-latest
