use Rattle.std.proofs.Common.{rules}
use Rattle.pw_shelf.proofs.laws.counting_shelf_is_its_inner_one.Goals as goal

pub returns-clause-clean : goal.returns-clause-clean
returns-clause-clean g c = search rules
