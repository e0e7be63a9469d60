use Rattle.std.proofs.lemmas.Result.{IfOk-from_err}
use Rattle.sqlite.specs.Held.{state}
use Rattle.pw_tariff.specs.Office.{office_of}
use Rattle.pw_schema.proofs.Outcomes.{early}
use Rattle.pw_store.proofs.InTurn.{counted_on}
use Rattle.pw_store.proofs.Raised.{is_ready, refused_before}
use Rattle.pw_store.proofs.Passed.{passed}
use Rattle.pw_store.specs.inner.Opened.{RowsRefuse}
use Rattle.pw_store.proofs.Filled.{kept_then}
use Rattle.pw_store.proofs.Scanning.{survives_on}
use Rattle.pw_store.proofs.opening.raise_and_check.Goals as goal

pub returns-in_err-held-clause-cause : goal.returns-in_err-held-clause-cause
returns-in_err-held-clause-cause g c clean =
    let old = state g.S.Store c.args.conn.now in
    let mid = state g.S.Store c.raise.new.conn in
    let new = state g.S.Store c.fill_and_check.new.conn in
    let raised = c.in_ok-raise.ensures.raised (early mid new c.in_err-held.ensures.crash clean) in
    passed c.from_residual-in_err-held.result (RowsRefuse c.args.version (office_of c.args.office.now) old.now.trees) c.from_residual-in_err-held.ensures.1 (refused_before (office_of c.args.office.now) old.now.trees mid.now.trees c.args.version c.requires.earlier raised c.in_err-held.field-0.0 (c.in_err-held.ensures.cause clean))

pub returns-clause-counted : goal.returns-clause-counted
returns-clause-counted g c clean =
    counted_on _ _ _ (c.in_ok-see_office.ensures.looks.same clean) (c.in_ok-held.ensures.counted (early _ _ c.in_ok-see_office.ensures.looks.crash clean))

pub returns-clause-ready : goal.returns-clause-ready
returns-clause-ready g c clean =
    let old = state g.S.Store c.args.conn.now in
    let mid = state g.S.Store c.raise.new.conn in
    let new = state g.S.Store c.fill_and_check.new.conn in
    let last = state g.S.Store c.see_office.new.conn in
    let seen = c.in_ok-see_office.ensures in
    let clean2 = early new last seen.looks.crash clean in
    let clean1 = early mid new c.in_ok-held.ensures.crash clean2 in
    let before = early old mid c.in_ok-raise.ensures.crash clean1 in
    is_ready c.args.version (office_of c.args.office.now) c.args.text.now old mid new last c.requires.earlier (c.requires.old_tables before) (c.requires.old_text before) (c.in_ok-raise.ensures.raised clean1)
    (c.in_ok-held.ensures.lasting clean2) (c.in_ok-held.ensures.within clean2) (c.in_ok-held.ensures.filled clean2) (c.in_ok-held.ensures.sound clean2) (seen.kept_text clean) (seen.plain clean)
    (seen.looks.same clean) (c.schema.ensures.live (seen.looks.same clean).0.is_open).0

pub returns-in_err-raise-clause-ready : goal.returns-in_err-raise-clause-ready
returns-in_err-raise-clause-ready g c clean = IfOk-from_err c.from_residual.result _ c.from_residual.ensures.0

pub returns-in_err-raise-clause-counted : goal.returns-in_err-raise-clause-counted
returns-in_err-raise-clause-counted g c clean = IfOk-from_err c.from_residual.result _ c.from_residual.ensures.0

pub returns-in_err-raise-clause-kept : goal.returns-in_err-raise-clause-kept
returns-in_err-raise-clause-kept g c = c.in_err-raise.ensures.kept

pub returns-in_err-raise-clause-crash : goal.returns-in_err-raise-clause-crash
returns-in_err-raise-clause-crash g c = c.in_err-raise.ensures.crash

pub returns-in_err-held-clause-ready : goal.returns-in_err-held-clause-ready
returns-in_err-held-clause-ready g c clean = IfOk-from_err c.from_residual-in_err-held.result _ c.from_residual-in_err-held.ensures.0

pub returns-in_err-held-clause-counted : goal.returns-in_err-held-clause-counted
returns-in_err-held-clause-counted g c clean = IfOk-from_err c.from_residual-in_err-held.result _ c.from_residual-in_err-held.ensures.0

pub returns-in_err-held-clause-kept : goal.returns-in_err-held-clause-kept
returns-in_err-held-clause-kept g c clean = kept_then _ _ _ (c.in_ok-raise.ensures.kept (early _ _ c.in_err-held.ensures.crash clean)) (c.in_err-held.ensures.kept clean)

pub returns-in_err-held-clause-crash : goal.returns-in_err-held-clause-crash
returns-in_err-held-clause-crash g c = survives_on _ _ _ c.in_ok-raise.ensures.crash c.in_err-held.ensures.crash

pub returns-in_err-see_office-clause-ready : goal.returns-in_err-see_office-clause-ready
returns-in_err-see_office-clause-ready g c clean = IfOk-from_err c.from_residual-in_err-see_office.result _ c.from_residual-in_err-see_office.ensures.0

pub returns-in_err-see_office-clause-counted : goal.returns-in_err-see_office-clause-counted
returns-in_err-see_office-clause-counted g c clean = IfOk-from_err c.from_residual-in_err-see_office.result _ c.from_residual-in_err-see_office.ensures.0

pub returns-in_err-see_office-clause-kept : goal.returns-in_err-see_office-clause-kept
returns-in_err-see_office-clause-kept g c clean =
    let raised = early _ _ c.in_err-see_office.ensures.looks.crash clean in
    kept_then _ _ _ (kept_then _ _ _ (c.in_ok-raise.ensures.kept (early _ _ c.in_ok-held.ensures.crash raised)) (c.in_ok-held.ensures.kept raised)) (c.in_err-see_office.ensures.looks.kept clean)

pub returns-in_err-see_office-clause-crash : goal.returns-in_err-see_office-clause-crash
returns-in_err-see_office-clause-crash g c = survives_on _ _ _ (survives_on _ _ _ c.in_ok-raise.ensures.crash c.in_ok-held.ensures.crash) c.in_err-see_office.ensures.looks.crash

pub returns-clause-cause : goal.returns-clause-cause
returns-clause-cause g c clean = tt

pub returns-clause-kept : goal.returns-clause-kept
returns-clause-kept g c clean =
    let raised = early _ _ c.in_ok-see_office.ensures.looks.crash clean in
    kept_then _ _ _ (kept_then _ _ _ (c.in_ok-raise.ensures.kept (early _ _ c.in_ok-held.ensures.crash raised)) (c.in_ok-held.ensures.kept raised)) (c.in_ok-see_office.ensures.looks.kept clean)

pub returns-clause-crash : goal.returns-clause-crash
returns-clause-crash g c = survives_on _ _ _ (survives_on _ _ _ c.in_ok-raise.ensures.crash c.in_ok-held.ensures.crash) c.in_ok-see_office.ensures.looks.crash
