use Rattle.sqlite.specs.Held.{state}
use Rattle.pw_schema.proofs.Outcomes.{early}
use Rattle.pw_store.specs.inner.Forms.{find}
use Rattle.pw_store.proofs.Finding.{finds_named}
use Rattle.pw_store.proofs.Querying.{ours_plain, asks_if}
use Rattle.pw_store.proofs.Texts.{find_is}
use Rattle.pw_store.proofs.records.rows_of_named.Goals as goal

pub returns-clause-found : goal.returns-clause-found
returns-clause-found g c clean =
    let old = state g.S.Store c.args.conn.now in
    let new = state g.S.Store c.query_all.new.self in
    let before = early old new c.query_all.ensures.survives clean in
    finds_named c.args.form c.args.named.now old new c.query_all.result (c.requires.store before)
    (rw (c.find.ensures, c.values.ensures, c.columns_of-columns.ensures.values) at (c.query_all.ensures.ok clean))

pub returns-clause-asks : goal.returns-clause-asks
returns-clause-asks g c =
    let is = c.find.ensures in
    asks_if (find c.args.form c.args.named.now) _ (state g.S.Store c.args.conn.now) (state g.S.Store c.query_all.new.self) c.query_all.result (λ clean. ours_plain (find_is c.args.form c.args.named.now) _ (c.requires.store clean).ours)
    (rw is at c.query_all.ensures.ok) (rw is at c.query_all.ensures.err) (rw is at c.query_all.ensures.survives)
