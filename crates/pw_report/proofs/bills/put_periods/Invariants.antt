use Rattle.std.proofs.Common.{◌≡◌, ◌++◌, ◌+◌}
use Rattle.pw_report.specs.Bills.{period_lines}
use Rattle.pw_report.specs.Layout.{listed_below}
use Rattle.pw_report.specs.inner.Told.{bill_of_sheet}
use Rattle.pw_report.proofs.bills.put_periods.Given as goal

abbrev pub invariant-loop-number : goal.invariant-loop-number
invariant-loop-number l = l.text.items ≡ l.initial.text.items
    ++ listed_below l.number (λ n. period_lines l.sheet.office.now (bill_of_sheet l.sheet) (l.sheet.first.0 + n))
