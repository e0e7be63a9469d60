use Rattle.std.proofs.Common.{ap, sym, ◌∙◌}
use Rattle.sqlite.specs.Held.{state}
use Rattle.sqlite.specs.Values.{bound}
use Rattle.pw_store.proofs.OneTotal.{take_edits, takes_if}
use Rattle.pw_store.proofs.total_statements.take_total.Goals as goal

pub returns-clause-done : goal.returns-clause-done
returns-clause-done g c clean = takes_if c.args.key (state g.S.Store c.args.conn.now) (state g.S.Store c.execute.new.self) _ _ c.requires.store c.execute.result c.requires.inside c.execute.ensures.runs c.execute.ensures.survives clean (sym c.text_of-text.ensures) (ap bound c.values.ensures ∙ c.columns_of.ensures.values)

pub returns-clause-writes : goal.returns-clause-writes
returns-clause-writes g c =
    let is = c.text_of-text.ensures in
    take_edits c.args.key (state g.S.Store c.args.conn.now) (state g.S.Store c.execute.new.self) _ c.execute.result (λ clean. (c.requires.store clean).ours) c.requires.inside (rw is at c.execute.ensures.runs) (rw is at c.execute.ensures.survives)
