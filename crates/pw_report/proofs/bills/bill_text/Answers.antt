use Rattle.std.proofs.Common.{◌∙◌, rules}
use Rattle.pw_report.specs.inner.Told.{bill_of_sheet}
use Rattle.pw_report.proofs.BillParts.{bill-is}
use Rattle.pw_report.proofs.bills.bill_text.Goals as goal

pub returns : goal.returns
returns c =
    let sheet = c.args.sheet.now in
    bill-is sheet.office.now sheet.account.0 sheet.month sheet.first.0 sheet.last.0 (bill_of_sheet sheet) sheet.read.now sheet.records _ _ _ c.amounts_of-amounts.result _ _ _ _ _ _ _ _ _ _ _ _
    (record {
      name_is = c.account_name.ensures;
      month_is = c.month_text.ensures;
      records_are = c.as_bytes.ensures.value ∙ c.format.ensures.text;
      amounts_are = c.amounts_of-amounts.ensures;
      begin_fits = search rules;
      topped_up_fits = search rules;
      imported_fits = search rules;
      exported_fits = search rules;
      rounding_fits = search rules;
      end_fits = search rules;
    })
    c.new-text.ensures.items c.in_ok-put_line.ensures c.in_ok-put_line-2.ensures c.in_ok-put_amount.ensures c.in_ok-put_amount-2.ensures c.in_ok-put_periods.ensures
    c.in_ok-put_amount-3.ensures c.in_ok-put_amount-4.ensures c.in_ok-put_rounding.ensures c.in_ok-put_amount-5.ensures c.in_ok-put_read.ensures c.in_ok-put_line-3.ensures
