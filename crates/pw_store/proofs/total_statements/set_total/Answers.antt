use Rattle.std.proofs.Common.{ap, sym, ◌∙◌}
use Rattle.sqlite.specs.Held.{state}
use Rattle.sqlite.specs.Values.{bound}
use Rattle.pw_store.proofs.OneTotal.{none_set_if, set_edits, sets_if}
use Rattle.pw_store.proofs.total_statements.set_total.Goals as goal

pub returns-clause-done : goal.returns-clause-done
returns-clause-done g c clean = sets_if c.args.key (state g.S.Store c.args.conn.now) (state g.S.Store c.execute.new.self) _ _ c.requires.store c.execute.result c.requires.inside c.execute.ensures.runs c.execute.ensures.survives clean c.args.amount c.requires.fits.0 (ap bound c.values.ensures ∙ c.columns_of.ensures.values) (sym c.text_of-text.ensures)

pub returns-clause-taken : goal.returns-clause-taken
returns-clause-taken g c clean = none_set_if c.args.key (state g.S.Store c.args.conn.now) (state g.S.Store c.execute.new.self) _ _ c.requires.store c.execute.result c.requires.inside c.execute.ensures.runs c.execute.ensures.survives clean c.args.amount c.requires.fits.0 (ap bound c.values.ensures ∙ c.columns_of.ensures.values) (sym c.text_of-text.ensures)

pub returns-clause-writes : goal.returns-clause-writes
returns-clause-writes g c =
    let is = c.text_of-text.ensures in
    set_edits c.args.key (state g.S.Store c.args.conn.now) (state g.S.Store c.execute.new.self) _ c.execute.result (λ clean. (c.requires.store clean).ours) c.requires.inside (rw is at c.execute.ensures.runs) (rw is at c.execute.ensures.survives)
