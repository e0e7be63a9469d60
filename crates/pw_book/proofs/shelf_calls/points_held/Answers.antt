use Rattle.std.proofs.Common.{rules}
use Rattle.pw_book.proofs.shelf_calls.points_held.Goals as goal

pub returns-clause-rows : goal.returns-clause-rows
returns-clause-rows g c = search rules depth 0 fits 100
