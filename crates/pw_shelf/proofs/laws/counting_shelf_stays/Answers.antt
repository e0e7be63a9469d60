use Rattle.std.proofs.Common.{rules}
use Rattle.pw_shelf.proofs.laws.counting_shelf_stays.Goals as goal

pub returns : goal.returns
returns g c = search rules
