use Rattle.std.proofs.Common.{◌++◌, []}
use Rattle.pw_report.specs.DaysAndWhy.{day_lines, days_header}
use Rattle.pw_report.specs.Exports.{csv_line}
use Rattle.pw_report.specs.Layout.{listed_below}
use Rattle.pw_report.specs.inner.Rows.{HasText}
use Rattle.pw_report.specs.inner.Told.{day_energies}
use Rattle.pw_report.proofs.days.days_text.Given as goal

abbrev pub invariant-loop-day : goal.invariant-loop-day
invariant-loop-day l = HasText l.rows (csv_line days_header ++ listed_below l.day (day_lines l.told.office.now l.told.month (day_energies l.told.energies.now))) []
