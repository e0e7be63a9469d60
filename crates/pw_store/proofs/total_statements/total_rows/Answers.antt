use Rattle.std.proofs.Common.{ap, sym, ◌∙◌}
use Rattle.sqlite.specs.Held.{state}
use Rattle.sqlite.specs.Values.{bound}
use Rattle.pw_schema.proofs.Outcomes.{early}
use Rattle.pw_store.proofs.OneTotal.{amount_if, ask_plain, ask_text}
use Rattle.pw_store.proofs.Querying.{asks_if}
use Rattle.pw_store.proofs.total_statements.total_rows.Goals as goal

pub returns-clause-amount : goal.returns-clause-amount
returns-clause-amount g c clean =
    let before = early (state g.S.Store c.args.conn.now) (state g.S.Store c.query_all.new.self) c.query_all.ensures.survives clean in
    amount_if c.args.key.now (state g.S.Store c.args.conn.now) (state g.S.Store c.query_all.new.self) _ _ c.query_all.result (c.requires.store before) (sym c.text_of-text.ensures) (ap bound c.values.ensures ∙ c.columns_of.ensures.values) (c.query_all.ensures.ok clean)

pub returns-clause-asks : goal.returns-clause-asks
returns-clause-asks g c =
    let is = c.text_of-text.ensures in
    asks_if (ask_text c.args.key.now) _ (state g.S.Store c.args.conn.now) (state g.S.Store c.query_all.new.self) c.query_all.result (λ clean. ask_plain c.args.key.now _ (c.requires.store clean).ours)
    (rw is at c.query_all.ensures.ok) (rw is at c.query_all.ensures.err) (rw is at c.query_all.ensures.survives)
