use Rattle.std.proofs.Common.{◌≡◌, ◌++◌}
use Rattle.pw_report.specs.Bills.{used_in}
use Rattle.pw_report.specs.Layout.{listed_below}
use Rattle.pw_report.specs.inner.Told.{bill_of_sheet}
use Rattle.pw_report.proofs.bills.put_bands.Given as goal

abbrev pub invariant-loop-band : goal.invariant-loop-band
invariant-loop-band l = l.text.items ≡ l.initial.text.items ++ listed_below l.band (used_in l.sheet.office.now (bill_of_sheet l.sheet) l.period.0)
