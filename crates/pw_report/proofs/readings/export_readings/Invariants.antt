use Rattle.std.proofs.Common.{◌++◌, [], ◌≡◌, false}
use Rattle.pw_model.proofs.Existence.{lists-exist}
use Rattle.pw_report.specs.Exports.{csv_line, meter_lines, readings_header}
use Rattle.pw_report.specs.Layout.{listed_below}
use Rattle.pw_report.specs.Names.{meter_name}
use Rattle.pw_report.specs.Reports.{IsAsked}
use Rattle.pw_report.specs.inner.Rows.{HasText}
use Rattle.pw_report.proofs.readings.export_readings.Given as goal

abbrev pub invariant-loop-meter : goal.invariant-loop-meter
invariant-loop-meter g l = record {
  text : g.S.Shelf.clean l.book.shelf →
      HasText l.rows (csv_line readings_header ++ listed_below l.meter (λ m. meter_lines (meter_name l.fn.book.office m) (λ r. ((lists-exist (g.S.Shelf.state l.fn.book.shelf).content.records).readings m r).0))) [];
  asked : IsAsked g.S.Shelf 0 l.fn.book l.book;
  open_yet : l.fn.book.shut ≡ false;
}
