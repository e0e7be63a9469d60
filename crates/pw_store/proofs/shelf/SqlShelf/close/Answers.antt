use Rattle.std.proofs.Common.{◌≡◌, IsTrue, sym, ap, subst}
use Rattle.sqlite.specs.Held.{state}
use Rattle.sqlite.specs.State.{State, HasCleanDisk}
use Rattle.pw_shelf.specs.State.{committed}
use Rattle.pw_store.specs.Content.{content_of}
use Rattle.pw_store.specs.Kept.{state_of}
use Rattle.pw_store.proofs.Keeping.{closed}
use Rattle.pw_store.proofs.shelf.SqlShelf.close.Goals as goal

pub returns-clause-committed : goal.returns-clause-committed
returns-clause-committed g c =
    let self = c.args.self in
    let at = state_of self.waiting.items (state g.S.Store self.conn) (state g.S.Store self.base.value) self.begun self.failures.count self.failed_abandons.count self.tally.count in
    subst (λ (s : State). HasCleanDisk s → IsTrue s.is_open → content_of s.committed.trees ≡ committed at) (sym (ap (state g.S.Store) c.into_connection.ensures))
    (λ clean live. closed self.waiting.items (state g.S.Store self.conn) (state g.S.Store self.base.value) self.begun self.failures.count self.failed_abandons.count self.tally.count self.since self.idle self.none_waits clean live)
