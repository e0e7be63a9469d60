use Rattle.std.proofs.Common.{rules}
use Rattle.pw_shelf.proofs.calls.MemoryShelfShelf.point_del.Goals as goal

pub returns-clause-deleted : goal.returns-clause-deleted
returns-clause-deleted c = search rules depth 0 fits 100
