use Rattle.std.proofs.Common.{◌++◌, List, ℕ, [], ap}
use Rattle.std.specs.List.{flat_map}
use Rattle.pw_tariff.specs.Office.{office_of}
use Rattle.pw_bills.specs.Why.{row_told}
use Rattle.pw_report.specs.DaysAndWhy.{payment_line, why_header, why_line, why_text}
use Rattle.pw_report.specs.Exports.{csv_line}
use Rattle.pw_report.proofs.Fields.{text-is}
use Rattle.pw_report.proofs.MonthTexts.{flat-mapped}
use Rattle.pw_report.proofs.why.why_text.Goals as goal

pub returns-clause-text : goal.returns-clause-text
unfolding why_text
returns-clause-text c =
    let file = c.args.office.now in
    let line = payment_line file c.args.account in
    let same = flat-mapped (why_line file) (row_told (office_of file)) c.args.pieces.now in
    c.finish.ensures.text _ []
    (text-is _ _ _ (ap (λ (t : List ℕ). (csv_line why_header ++ t) ++ flat_map line c.args.payments.now) same)
    (c.in_ok-tell_each-2.ensures.text _ (c.in_ok-tell_each.ensures.text _ (c.in_ok-put_header.ensures.text [] c.new-rows.ensures))))
