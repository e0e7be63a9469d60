use Rattle.std.proofs.Common.{rules}
use Rattle.pw_shelf.proofs.counted_calls.CountShelfShelf.point_del.Goals as goal

pub returns-clause-written : goal.returns-clause-written
returns-clause-written g c = search rules depth 0 fits 100
