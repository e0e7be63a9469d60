use Rattle.sqlite.specs.Held.{state}
use Rattle.pw_tariff.specs.Office.{office_of}
use Rattle.pw_schema.proofs.Outcomes.{early}
use Rattle.pw_store.proofs.Adopted.{is_replaced, refused_before}
use Rattle.pw_store.proofs.InTurn.{counted_on}
use Rattle.pw_store.proofs.Passed.{passed}
use Rattle.pw_store.specs.inner.Opened.{RowsRefuse}
use Rattle.pw_schema.specs.declared.kind.StoreVersion.TheVariants.{Third}
use Rattle.pw_store.proofs.adopting.replace_and_check.Goals as goal

pub returns-in_err-held-clause-cause : goal.returns-in_err-held-clause-cause
returns-in_err-held-clause-cause g c clean =
    let old = state g.S.Store c.args.conn.now in
    let put = state g.S.Store c.replace.new.conn in
    let new = state g.S.Store c.check_rows.new.conn in
    let same = c.in_ok-replace.ensures.others (early put new c.in_err-held.ensures.looks.crash clean) in
    passed c.from_residual-in_err-held.result (RowsRefuse Third (office_of c.args.office.now) old.now.trees) c.from_residual-in_err-held.ensures.1 (refused_before old.now.trees put.now.trees same (office_of c.args.office.now) c.in_err-held.field-0.0 (c.in_err-held.ensures.cause clean))

pub returns-clause-counted : goal.returns-clause-counted
returns-clause-counted g c clean =
    counted_on _ _ _ (c.in_ok-see_office.ensures.looks.same clean) (c.in_ok-held.ensures.counted (early _ _ c.in_ok-see_office.ensures.looks.crash clean))

pub returns-clause-replaced : goal.returns-clause-replaced
returns-clause-replaced g c clean =
    let seen = c.in_ok-see_office.ensures in
    let checked = c.in_ok-held.ensures in
    let clean2 = early _ _ seen.looks.crash clean in
    let clean1 = early _ _ checked.looks.crash clean2 in
    is_replaced (office_of c.args.office.now) c.args.text.now (state g.S.Store c.args.conn.now) (state g.S.Store c.replace.new.conn) (state g.S.Store c.check_rows.new.conn) (state g.S.Store c.see_office.new.conn) (c.in_ok-replace.ensures.within clean1) (c.in_ok-replace.ensures.others clean1) (checked.looks.same clean2) (checked.sound clean2)
    (seen.kept_text clean) (seen.plain clean) (seen.looks.same clean) (c.schema.ensures.live (seen.looks.same clean).0.is_open).0
