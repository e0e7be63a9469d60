use Rattle.std.proofs.Common.{rules}
use Rattle.pw_shelf.proofs.calls.MemoryShelfShelf.commit.Goals as goal

pub returns-clause-tally : goal.returns-clause-tally
returns-clause-tally c = search rules depth 0 fits 100

pub returns-clause-same : goal.returns-clause-same
returns-clause-same c = assumption

pub invariant_of-self : goal.invariant_of-self
invariant_of-self c = search rules depth 0 fits 100
