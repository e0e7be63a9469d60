use Rattle.std.proofs.Common.{rules}
use Rattle.pw_shelf.proofs.counted_calls.CountShelfShelf.abandon.Goals as goal

pub returns-clause-done : goal.returns-clause-done
returns-clause-done g c = search rules depth 0 fits 100

pub returns-clause-begun : goal.returns-clause-begun
returns-clause-begun g c = assumption

pub returns-then-fails_abandon-clause-failed : goal.returns-then-fails_abandon-clause-failed
returns-then-fails_abandon-clause-failed g c = search rules depth 0 fits 100

pub returns-clause-store : goal.returns-clause-store
returns-clause-store g c = assumption
