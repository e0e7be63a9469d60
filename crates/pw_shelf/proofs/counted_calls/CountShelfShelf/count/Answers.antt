use Rattle.std.proofs.Common.{rules}
use Rattle.pw_shelf.proofs.counted_calls.CountShelfShelf.count.Goals as goal

pub returns-clause-asked : goal.returns-clause-asked
returns-clause-asked g c = search rules depth 0 fits 100
