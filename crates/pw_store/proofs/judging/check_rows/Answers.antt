use Rattle.std.proofs.Common.{subst}
use Rattle.sqlite.specs.Held.{state}
use Rattle.sqlite.specs.Tree.{Trees}
use Rattle.pw_tariff.specs.Office.{office_of}
use Rattle.pw_schema.specs.declared.kind.StoreVersion.TheVariants.{Third}
use Rattle.pw_schema.proofs.Outcomes.{early}
use Rattle.pw_store.specs.inner.Opened.{RowsRefuse}
use Rattle.pw_store.proofs.InTurn.{counted_on, trees_same}
use Rattle.pw_store.proofs.Judged.{rows_refused}
use Rattle.pw_store.proofs.Passed.{passed}
use Rattle.pw_store.proofs.judging.check_rows.Goals as goal

pub returns-in_err-held-clause-cause : goal.returns-in_err-held-clause-cause
returns-in_err-held-clause-cause g c clean =
    passed c.from_residual.result (RowsRefuse Third (office_of c.args.office.now) (state g.S.Store c.args.conn.now).now.trees) c.from_residual.ensures.1 (rows_refused (office_of c.args.office.now) (state g.S.Store c.args.conn.now).now.trees c.in_err-held.field-0.0 (c.in_err-held.ensures.cause clean))

pub returns-clause-counted : goal.returns-clause-counted
returns-clause-counted g c clean =
    counted_on _ _ _ (c.in_ok-check_sums.ensures.looks.same clean) (c.in_ok-held.ensures.counted (early _ _ c.in_ok-check_sums.ensures.looks.crash clean))

pub returns-in_err-check_sums-clause-cause : goal.returns-in_err-check_sums-clause-cause
returns-in_err-check_sums-clause-cause g c clean =
    let old = state g.S.Store c.args.conn.now in
    let mid = state g.S.Store c.judge_records.new.conn in
    let before = early mid (state g.S.Store c.check_sums.new.conn) c.in_err-check_sums.ensures.looks.crash clean in
    passed c.from_residual-in_err-check_sums.result (RowsRefuse Third (office_of c.args.office.now) old.now.trees) c.from_residual-in_err-check_sums.ensures.1 (subst (λ (db : Trees). RowsRefuse Third (office_of c.args.office.now) db c.in_err-check_sums.field-0.0) (trees_same old mid (c.in_ok-held.ensures.looks.same before)) (c.in_err-check_sums.ensures.cause clean))
