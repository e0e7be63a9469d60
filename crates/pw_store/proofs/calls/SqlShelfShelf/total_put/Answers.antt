use Rattle.std.proofs.Common.{◌≡◌, sym, ap, ◌∙◌, rules}
use Rattle.sqlite.specs.Held.{state}
use Rattle.pw_shelf.specs.Changes.{with_total}
use Rattle.pw_store.specs.Kept.{written_of}
use Rattle.pw_store.proofs.Waited.{over_if, over_same}
use Rattle.pw_store.proofs.calls.SqlShelfShelf.total_put.Goals as goal

pub returns-then-amount-eq0-clause-put : goal.returns-then-amount-eq0-clause-put
returns-then-amount-eq0-clause-put g c clean =
    let old = written_of (state g.S.Store c.args.self.now.conn) (state g.S.Store c.args.self.now.base.value) in
    let zero : c.args.amount ≡ 0 = search rules in
    over_same _ _ _ _ c.in_ok-change.ensures.waits (c.in_ok-change.ensures.content clean ∙ ap (with_total old c.args.key.now) (sym zero))

pub returns-clause-put : goal.returns-clause-put
returns-clause-put g c clean = over_if c.put_total.result _ _ _ _ c.put_total.ensures.waits (c.put_total.ensures.content clean)

pub put_total-requires-clause-fits : goal.put_total-requires-clause-fits
put_total-requires-clause-fits g c = search rules depth 0 fits 100
