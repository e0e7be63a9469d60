use Rattle.std.proofs.Common.{sym, subst}
use Rattle.sqlite.specs.Held.{state}
use Rattle.sqlite.specs.State.{HasCleanDisk}
use Rattle.pw_shelf.specs.State.{committed}
use Rattle.pw_store.specs.Kept.{CommittedIsStore, state_of}
use Rattle.pw_store.specs.OpenStore.{held_in}
use Rattle.pw_store.proofs.Reopening.{reopened}
use Rattle.pw_store.proofs.laws.closed_is_opened_again.Goals as goal

pub returns : goal.returns
returns g c =
    let shelf = c.args.shelf in
    let before = state g.S.Store c.close.result in
    reopened c.args.office_text.now (HasCleanDisk before) _ (λ s. HasCleanDisk (state g.S.Store s.conn)) (λ s. held_in g.S.Store s)
    before.committed (committed (state_of shelf.waiting.items (state g.S.Store shelf.conn) (state g.S.Store shelf.base.value) shelf.begun shelf.failures.count shelf.failed_abandons.count shelf.tally.count))
    c.open.result c.close.ensures.committed
    (λ clean live. (subst (λ conn. CommittedIsStore (state g.S.Store conn)) (sym c.close.ensures.same) shelf.committed clean live).ours)
    c.open.ensures.was_open c.open.ensures.content
