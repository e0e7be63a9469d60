use Rattle.sqlite.specs.Held.{state}
use Rattle.pw_schema.proofs.Outcomes.{early}
use Rattle.pw_store.specs.inner.Keys.{at_text}
use Rattle.pw_store.proofs.AtKey.{at_plain, told_if}
use Rattle.pw_store.proofs.Querying.{asks_if}
use Rattle.pw_store.proofs.keys.rows_at.Goals as goal

pub returns-clause-told : goal.returns-clause-told
returns-clause-told g c clean =
    let before = early (state g.S.Store c.args.conn.now) (state g.S.Store c.query_all.new.self) c.query_all.ensures.survives clean in
    told_if c.args.key.now (state g.S.Store c.args.conn.now) (state g.S.Store c.query_all.new.self) c.query_all.result (c.requires.store before)
    (rw (c.text.ensures, c.values.ensures, c.columns-columns.ensures.values) at (c.query_all.ensures.ok clean))

pub returns-clause-asks : goal.returns-clause-asks
returns-clause-asks g c =
    let is = c.text.ensures in
    asks_if (at_text c.args.key.now) _ (state g.S.Store c.args.conn.now) (state g.S.Store c.query_all.new.self) c.query_all.result (λ clean. at_plain c.args.key.now _ (c.requires.store clean).ours)
    (rw is at c.query_all.ensures.ok) (rw is at c.query_all.ensures.err) (rw is at c.query_all.ensures.survives)
