use Rattle.std.proofs.Common.{rules}
use Rattle.pw_shelf.proofs.calls.MemoryShelfShelf.add.Goals as goal

pub returns-clause-written : goal.returns-clause-written
returns-clause-written c = search rules depth 0 fits 100

pub returns-clause-added : goal.returns-clause-added
returns-clause-added c = search rules depth 0 fits 100
