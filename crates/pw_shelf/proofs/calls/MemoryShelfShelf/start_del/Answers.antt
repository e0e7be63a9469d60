use Rattle.std.proofs.Common.{rules}
use Rattle.pw_shelf.proofs.calls.MemoryShelfShelf.start_del.Goals as goal

pub returns-clause-written : goal.returns-clause-written
returns-clause-written c = search rules depth 0 fits 100

pub returns-clause-deleted : goal.returns-clause-deleted
returns-clause-deleted c = search rules depth 0 fits 100
