use Rattle.std.proofs.Common.{refl, ap, ◌∙◌}
use Rattle.sqlite.specs.Held.{state}
use Rattle.sqlite.specs.Values.{bound}
use Rattle.pw_schema.proofs.Outcomes.{early}
use Rattle.pw_store.specs.inner.Filling.{is_of_energy}
use Rattle.pw_store.proofs.Adding.{inserts_if}
use Rattle.pw_store.proofs.KeptTexts.{insert_payment_text, insert_payment_is, payment_terms}
use Rattle.pw_store.proofs.OneTotal.{energy_put_if, pays_if}
use Rattle.pw_store.proofs.total_statements.put_total.Goals as goal

pub returns-in-Energy-clause-done : goal.returns-in-Energy-clause-done
returns-in-Energy-clause-done g c clean =
    let old = state g.S.Store c.args.conn.now in
    let new = state g.S.Store c.put_energy.new.conn in
    let before = early old new c.put_energy.ensures.writes.crash clean in
    energy_put_if c.args.key c.args.amount old new c.put_energy.result c.requires.fits.0 (ap is_of_energy c.in-Energy.is) (c.requires.store before) (c.requires.free before) (c.put_energy.ensures.put clean)

pub returns-in-TopUps-clause-done : goal.returns-in-TopUps-clause-done
returns-in-TopUps-clause-done g c clean =
    let before = early (state g.S.Store c.args.conn.now) (state g.S.Store c.execute.new.self) c.execute.ensures.survives clean in
    pays_if c.args.key (state g.S.Store c.args.conn.now) (state g.S.Store c.execute.new.self) _ _ c.requires.store c.execute.result c.requires.inside c.execute.ensures.runs c.execute.ensures.survives clean
    c.args.amount c.requires.fits.0 (ap bound c.values.ensures ∙ c.columns_of.ensures.values) refl (ap is_of_energy c.in-TopUps.is) (c.requires.free before)

pub returns-in-TopUps-clause-writes : goal.returns-in-TopUps-clause-writes
returns-in-TopUps-clause-writes g c = inserts_if insert_payment_text 7 3 payment_terms insert_payment_is (state g.S.Store c.args.conn.now) (state g.S.Store c.execute.new.self) _ c.execute.result (λ clean. (c.requires.store clean).ours) c.requires.inside c.execute.ensures.runs c.execute.ensures.survives
