use Rattle.std.proofs.Common.{rules}
use Rattle.pw_shelf.proofs.counted_calls.CountShelfShelf.commit.Goals as goal

pub returns-clause-begun : goal.returns-clause-begun
returns-clause-begun g c = assumption

pub returns-clause-counts : goal.returns-clause-counts
returns-clause-counts g c = search rules depth 0 fits 100

pub returns-clause-store : goal.returns-clause-store
returns-clause-store g c = assumption
