use Rattle.pw_http.proofs.Paths.{paths-reach}
use Rattle.pw_http.proofs.laws.paths_reach_routes.Goals as goal

pub returns : goal.returns
returns c = paths-reach
