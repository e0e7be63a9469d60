use Rattle.std.proofs.Common.{◌≡◌, length, rules}
use Rattle.sqlite.specs.Held.{state}
use Rattle.pw_tariff.specs.Office.{office_of}
use Rattle.pw_store.proofs.Judged.{are_judged, judged_many, parts_refused, records_refused}
use Rattle.pw_store.proofs.Passed.{passed}
use Rattle.pw_store.specs.inner.Opened.{RecordsRefuse}
use Rattle.pw_store.proofs.judging.judge_records.Goals as goal

pub returns-in_err-records-clause-cause : goal.returns-in_err-records-clause-cause
returns-in_err-records-clause-cause g c clean =
    passed c.from_residual.result (RecordsRefuse (office_of c.args.office.now) (state g.S.Store c.args.conn.now).now.trees) c.from_residual.ensures.1 (records_refused (office_of c.args.office.now) (state g.S.Store c.args.conn.now).now.trees c.in_err-records.field-0.0 (c.in_err-records.ensures.cause clean))

pub returns-clause-counted : goal.returns-clause-counted
returns-clause-counted g c clean =
    let old = state g.S.Store c.args.conn.now in
    let new = state g.S.Store c.check_records.new.conn in
    let told : length c.in_ok-records.records.items ≡ c.len-held.result = search rules in
    judged_many old new c.in_ok-records.records.items c.len-held.result (c.in_ok-records.ensures.looks.same clean) (c.in_ok-records.ensures.listed clean) told

pub returns-clause-judged : goal.returns-clause-judged
returns-clause-judged g c clean =
    let old = state g.S.Store c.args.conn.now in
    let new = state g.S.Store c.check_records.new.conn in
    are_judged (office_of c.args.office.now) old new c.in_ok-records.records.items c.in_ok-parts.parts (c.in_ok-records.ensures.looks.same clean) (c.in_ok-records.ensures.sound clean) (c.in_ok-records.ensures.listed clean) c.in_ok-parts.ensures.few c.in_ok-parts.ensures.parts

pub returns-in_err-parts-clause-cause : goal.returns-in_err-parts-clause-cause
returns-in_err-parts-clause-cause g c clean =
    passed c.from_residual-in_err-parts.result (RecordsRefuse (office_of c.args.office.now) (state g.S.Store c.args.conn.now).now.trees) c.from_residual-in_err-parts.ensures.1 (parts_refused (office_of c.args.office.now) (state g.S.Store c.args.conn.now).now.trees c.in_ok-records.records.items c.in_err-parts.field-0.0 (c.in_ok-records.ensures.listed clean) c.in_err-parts.ensures.many c.in_err-parts.ensures.others)
