use Rattle.pw_store.proofs.Waited.{over_same}
use Rattle.pw_store.proofs.calls.SqlShelfShelf.start_del.Goals as goal

pub returns-clause-deleted : goal.returns-clause-deleted
returns-clause-deleted g c clean = over_same _ _ _ _ c.in_ok-change.ensures.waits (c.in_ok-change.ensures.content clean)
