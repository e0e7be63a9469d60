use Rattle.std.proofs.Common.{ap, length, sym, subst, ◌∙◌}
use Rattle.sqlite.specs.Held.{state}
use Rattle.sqlite.specs.State.{State, IsUnchanged}
use Rattle.sqlite.specs.Tree.{Trees}
use Rattle.pw_tariff.specs.Office.{office_of}
use Rattle.pw_schema.specs.Raised.{HasSame, lasting_trees}
use Rattle.pw_schema.specs.Tables.{schema_of}
use Rattle.pw_schema.specs.declared.kind.StoreVersion.TheVariants.{Second, Third}
use Rattle.pw_schema.proofs.Outcomes.{early}
use Rattle.pw_store.proofs.Filled.{all_on, engine_refuses, filled_on, filled_refuses, within_on}
use Rattle.pw_store.proofs.InTurn.{counted_on, trees_same}
use Rattle.pw_store.proofs.Judged.{earlier_refused}
use Rattle.pw_store.proofs.Raised.{refused_on}
use Rattle.pw_store.proofs.Passed.{passed}
use Rattle.pw_store.specs.inner.Opened.{RowsRefuse}
use Rattle.pw_store.proofs.opening.fill_and_check.Goals as goal

-- what lasts, from before what only looks
lasting_from : (old read put : State) → IsUnchanged old read → HasSame lasting_trees read.now.trees put.now.trees → HasSame lasting_trees old.now.trees put.now.trees
lasting_from old read put u = subst (λ (db : Trees). HasSame lasting_trees db put.now.trees) (trees_same old read u)

pub fill-requires-clause-within : goal.fill-requires-clause-within
fill-requires-clause-within g c clean =
    let old = state g.S.Store c.args.conn.now in
    let read = state g.S.Store c.judge_records.new.conn in
    within_on (schema_of Third) old read (c.in_ok-held.ensures.looks.same clean) (c.requires (early old read c.in_ok-held.ensures.looks.crash clean))

pub check_sums-requires-clause-ours : goal.check_sums-requires-clause-ours
check_sums-requires-clause-ours g c clean = (c.in_ok-fill.ensures.within clean).schema_is

pub returns-in_err-held-clause-cause : goal.returns-in_err-held-clause-cause
returns-in_err-held-clause-cause g c clean =
    passed c.from_residual.result (RowsRefuse Second (office_of c.args.office.now) (state g.S.Store c.args.conn.now).now.trees) c.from_residual.ensures.1 (earlier_refused (office_of c.args.office.now) (state g.S.Store c.args.conn.now).now.trees c.in_err-held.field-0.0 (c.in_err-held.ensures.cause clean))

pub returns-in_err-fill-clause-cause : goal.returns-in_err-fill-clause-cause
returns-in_err-fill-clause-cause g c clean =
    passed c.from_residual-in_err-fill.result (RowsRefuse Second (office_of c.args.office.now) (state g.S.Store c.args.conn.now).now.trees) c.from_residual-in_err-fill.ensures.1 (engine_refuses Second (office_of c.args.office.now) (state g.S.Store c.args.conn.now).now.trees c.in_err-fill.field-0.0 c.in_err-fill.ensures.engine)

pub returns-clause-within : goal.returns-clause-within
returns-clause-within g c clean =
    let put = state g.S.Store c.fill.new.conn in
    let new = state g.S.Store c.check_sums.new.conn in
    within_on (schema_of Third) put new (c.in_ok-check_sums.ensures.looks.same clean) (c.in_ok-fill.ensures.within (early put new c.in_ok-check_sums.ensures.looks.crash clean))

pub returns-clause-lasting : goal.returns-clause-lasting
returns-clause-lasting g c clean =
    let clean2 = early _ _ c.in_ok-check_sums.ensures.looks.crash clean in
    let same = lasting_from (state g.S.Store c.args.conn.now) (state g.S.Store c.judge_records.new.conn) (state g.S.Store c.fill.new.conn) (c.in_ok-held.ensures.looks.same (early _ _ c.in_ok-fill.ensures.crash clean2)) (c.in_ok-fill.ensures.lasting clean2) in
    subst (HasSame lasting_trees (state g.S.Store c.args.conn.now).now.trees) (sym (trees_same _ _ (c.in_ok-check_sums.ensures.looks.same clean))) same

pub returns-clause-filled : goal.returns-clause-filled
returns-clause-filled g c clean =
    let put = state g.S.Store c.fill.new.conn in
    let new = state g.S.Store c.check_sums.new.conn in
    filled_on (office_of c.args.office.now) put new (c.in_ok-check_sums.ensures.looks.same clean) (c.in_ok-fill.ensures.filled (early put new c.in_ok-check_sums.ensures.looks.crash clean))

pub returns-clause-counted : goal.returns-clause-counted
returns-clause-counted g c clean =
    let read = state g.S.Store c.judge_records.new.conn in
    let put = state g.S.Store c.fill.new.conn in
    let clean2 = early _ _ c.in_ok-check_sums.ensures.looks.crash clean in
    counted_on _ _ _ (c.in_ok-check_sums.ensures.looks.same clean) (ap length (all_on read.now.trees put.now.trees (c.in_ok-fill.ensures.lasting clean2)) ∙ c.in_ok-held.ensures.counted (early _ _ c.in_ok-fill.ensures.crash clean2))

pub returns-in_err-check_sums-clause-cause : goal.returns-in_err-check_sums-clause-cause
returns-in_err-check_sums-clause-cause g c clean =
    let office = office_of c.args.office.now in
    let old = state g.S.Store c.args.conn.now in
    let put = state g.S.Store c.fill.new.conn in
    let clean2 = early _ _ c.in_err-check_sums.ensures.looks.crash clean in
    let same = lasting_from (state g.S.Store c.args.conn.now) (state g.S.Store c.judge_records.new.conn) (state g.S.Store c.fill.new.conn) (c.in_ok-held.ensures.looks.same (early _ _ c.in_ok-fill.ensures.crash clean2)) (c.in_ok-fill.ensures.lasting clean2) in
    passed c.from_residual-in_err-check_sums.result (RowsRefuse Second office old.now.trees) c.from_residual-in_err-check_sums.ensures.1 (refused_on office old.now.trees put.now.trees same c.in_err-check_sums.field-0.0 (filled_refuses office put.now.trees (c.in_ok-fill.ensures.filled clean2) c.in_err-check_sums.field-0.0 (c.in_err-check_sums.ensures.cause clean)))
