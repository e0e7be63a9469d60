use Rattle.sqlite.specs.Held.{state}
use Rattle.pw_schema.proofs.Outcomes.{early}
use Rattle.pw_store.proofs.Adding.{inserts_if}
use Rattle.pw_store.proofs.KeptTexts.{five_terms, insert_total_text, insert_total_is}
use Rattle.pw_store.proofs.OneTotal.{row_put_if}
use Rattle.pw_store.proofs.total_statements.put_energy.Goals as goal

pub returns-clause-put : goal.returns-clause-put
returns-clause-put g c clean =
    let before = early (state g.S.Store c.args.conn.now) (state g.S.Store c.execute.new.self) c.execute.ensures.survives clean in
    row_put_if c.args.key.now c.args.wh (state g.S.Store c.args.conn.now) (state g.S.Store c.execute.new.self) c.execute.result c.requires.energy (c.requires.ours before) (c.requires.inside before)
    (rw (c.values.ensures, c.columns_of.ensures.values) at (c.execute.ensures.runs clean))

pub returns-clause-writes : goal.returns-clause-writes
returns-clause-writes g c = inserts_if insert_total_text 11 6 five_terms insert_total_is (state g.S.Store c.args.conn.now) (state g.S.Store c.execute.new.self) _ c.execute.result c.requires.ours c.requires.inside c.execute.ensures.runs c.execute.ensures.survives
