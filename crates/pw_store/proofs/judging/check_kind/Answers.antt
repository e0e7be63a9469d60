use Rattle.std.proofs.Common.{ap, sym, subst}
use Rattle.std.specs.List.Sorted.{IsPermutation}
use Rattle.sqlite.specs.Held.{state}
use Rattle.pw_tariff.specs.Office.{office_of}
use Rattle.pw_model.specs.Office.{AllOfOffice}
use Rattle.pw_store.specs.Content.{entries_of}
use Rattle.pw_store.proofs.Refusals.{table_holds, table_listed, table_of_office, table_refuses}
use Rattle.pw_store.proofs.Passed.{passed}
use Rattle.pw_store.specs.inner.Opened.{RefusesUnless}
use Rattle.pw_store.specs.Opening.{HoldsRecords}
use Rattle.pw_store.proofs.judging.check_kind.Goals as goal

pub returns-clause-good : goal.returns-clause-good
returns-clause-good g c clean =
    let it = c.in_ok-judge_listing.ensures.took in
    table_holds (office_of c.args.office.now) c.args.kind c.new-records.result (ap office_of c.new-records.ensures.office) c.new-records.ensures.kind c.judge_listing.new.judge it.0 it.1 (state g.S.Store c.args.conn.now).now.trees (it.2 clean)

pub returns-clause-listed : goal.returns-clause-listed
returns-clause-listed g c clean =
    let it = c.in_ok-judge_listing.ensures.took in
    let db = (state g.S.Store c.args.conn.now).now.trees in
    let listed = table_listed (office_of c.args.office.now) c.args.kind c.new-records.result (ap office_of c.new-records.ensures.office) c.new-records.ensures.kind c.judge_listing.new.judge it.0 it.1 db (it.2 clean) in
    subst (IsPermutation (entries_of c.args.kind db)) (sym (ap (λ v. v.items) c.into_entries.ensures)) listed

pub returns-clause-of_office : goal.returns-clause-of_office
returns-clause-of_office g c =
    let it = c.in_ok-judge_listing.ensures.took in
    let of = table_of_office (office_of c.args.office.now) c.args.kind c.new-records.result (ap office_of c.new-records.ensures.office) c.new-records.ensures.kind c.judge_listing.new.judge it.0 it.1 in
    subst (AllOfOffice (office_of c.args.office.now)) (sym (ap (λ v. v.items) c.into_entries.ensures)) of

pub returns-in_err-judge_listing-clause-cause : goal.returns-in_err-judge_listing-clause-cause
returns-in_err-judge_listing-clause-cause g c clean =
    passed c.from_residual.result (RefusesUnless (HoldsRecords (office_of c.args.office.now) c.args.kind (state g.S.Store c.args.conn.now).now.trees)) c.from_residual.ensures.1 (table_refuses (office_of c.args.office.now) c.args.kind c.new-records.result (ap office_of c.new-records.ensures.office) c.new-records.ensures.kind (state g.S.Store c.args.conn.now).now.trees c.in_err-judge_listing.field-0.0 c.in_err-judge_listing.ensures.others (c.in_err-judge_listing.ensures.refused clean))
