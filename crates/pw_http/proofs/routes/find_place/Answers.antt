use Rattle.std.proofs.Common.{rules}
use Rattle.pw_http.proofs.routes.find_place.Goals as goal

pub returns-else-eq : goal.returns-else-eq
returns-else-eq c = search rules
