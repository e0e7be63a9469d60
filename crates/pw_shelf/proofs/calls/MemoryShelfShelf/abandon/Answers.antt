use Rattle.std.proofs.Common.{rules}
use Rattle.pw_shelf.proofs.calls.MemoryShelfShelf.abandon.Goals as goal

pub returns-clause-tally : goal.returns-clause-tally
returns-clause-tally c = search rules depth 0 fits 100

pub returns-clause-back : goal.returns-clause-back
returns-clause-back c = search rules depth 0 fits 100
