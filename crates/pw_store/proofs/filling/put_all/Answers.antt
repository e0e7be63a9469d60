use Rattle.std.proofs.Common.{None}
use Rattle.sqlite.specs.Held.{state}
use Rattle.sqlite.specs.State.{HasCleanDisk}
use Rattle.pw_tariff.specs.declared.ids.Direction.TheVariants.{Import}
use Rattle.pw_model.specs.declared.records.TotalKey.TheVariants.{Energy}
use Rattle.pw_schema.proofs.Outcomes.{early}
use Rattle.pw_store.proofs.Filled.{kept_itself, kept_then, same_itself, same_then, survives_itself, told_further, told_itself}
use Rattle.pw_store.proofs.Scanning.{survives_on}
use Rattle.pw_store.proofs.filling.put_all.Goals as goal

pub loop-key-init : goal.loop-key-init
loop-key-init g c =
    let old = state g.S.Store c.args.conn.now in
    record {
      within = c.requires.within;
      lasting = λ clean. same_itself old.now.trees;
      told = λ clean. told_itself old.now.trees;
      kept = λ clean. kept_itself old;
      crash = survives_itself old _;
    }

pub loop-key-preserved : goal.loop-key-preserved
loop-key-preserved g c =
    let old = state g.S.Store c.args.conn.now in
    let now = state g.S.Store c.loop-key.conn in
    let new = state g.S.Store c.fill_total.new.conn in
    let was = c.loop-key.invariant in
    let it = c.in_ok-fill_total.ensures in
    let before : HasCleanDisk new → HasCleanDisk now = early now new {P = λ _. ⊥} it.crash in
    record {
      within = it.within;
      lasting = λ clean. same_then old.now.trees now.now.trees new.now.trees (was.lasting (before clean)) (it.lasting clean);
      told = λ clean. told_further c.args.totals.now c.loop-key.key-index (Energy None (record { 0 = 0 }) (record { 0 = 0 }) Import, 0) old.now.trees now.now.trees new.now.trees c.loop-key-test.true (was.told (before clean)) (it.told clean);
      kept = λ clean. kept_then old now new (was.kept (before clean)) (it.kept clean);
      crash = survives_on old now new was.crash it.crash;
    }

pub returns-in_err-fill_total-clause-kept : goal.returns-in_err-fill_total-clause-kept
returns-in_err-fill_total-clause-kept g c clean =
    let old = state g.S.Store c.args.conn.now in
    let now = state g.S.Store c.loop-key.conn in
    let new = state g.S.Store c.fill_total.new.conn in
    let it = c.in_err-fill_total.ensures in
    kept_then old now new (c.loop-key.invariant.kept (early now new {P = λ _. ⊥} it.crash clean)) (it.kept clean)
