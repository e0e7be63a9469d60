use Rattle.std.proofs.Common.{rules}
use Rattle.pw_shelf.proofs.calls.MemoryShelfShelf.total_put.Goals as goal

pub returns-clause-put : goal.returns-clause-put
returns-clause-put c = search rules depth 0 fits 100
