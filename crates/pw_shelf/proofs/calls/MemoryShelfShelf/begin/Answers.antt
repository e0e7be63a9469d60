use Rattle.std.proofs.Common.{rules}
use Rattle.pw_shelf.proofs.calls.MemoryShelfShelf.begin.Goals as goal

pub returns-clause-tally : goal.returns-clause-tally
returns-clause-tally c = search rules depth 0 fits 100

pub returns-clause-same : goal.returns-clause-same
returns-clause-same c = assumption

pub returns-clause-begun : goal.returns-clause-begun
returns-clause-begun c = search rules depth 0 fits 100
