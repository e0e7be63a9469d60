use Rattle.sqlite.specs.Held.{state}
use Rattle.pw_schema.proofs.Outcomes.{early}
use Rattle.pw_store.specs.inner.Forms.{insert}
use Rattle.pw_store.proofs.Adding.{adds_named, inserts_if}
use Rattle.pw_store.proofs.Texts.{insert_is, kind_as, place_of, terms_of, width_of}
use Rattle.pw_store.proofs.records.add_named.Goals as goal

pub returns-clause-done : goal.returns-clause-done
returns-clause-done g c clean =
    let old = state g.S.Store c.args.conn.now in
    let new = state g.S.Store c.execute.new.self in
    let before = early old new c.execute.ensures.survives clean in
    adds_named c.args.form c.args.named.now old new c.execute.result (c.requires.store before) (c.requires.inside before) (c.requires.fresh before)
    (rw (c.insert.ensures, c.values.ensures, c.columns_of-columns.ensures.values) at (c.execute.ensures.runs clean))

pub returns-clause-writes : goal.returns-clause-writes
returns-clause-writes g c =
    let form = c.args.form in
    let n = c.args.named.now in
    inserts_if (insert form n) (place_of (kind_as form n)) (width_of n) (terms_of n) (insert_is form n) (state g.S.Store c.args.conn.now) (state g.S.Store c.execute.new.self) _ c.execute.result (λ clean. (c.requires.store clean).ours) c.requires.inside
    (rw (c.insert.ensures) at c.execute.ensures.runs) (rw (c.insert.ensures) at c.execute.ensures.survives)
