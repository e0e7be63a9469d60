use Rattle.std.proofs.Common.{◌++◌, ℕ, List, [], take}
use Rattle.std.specs.List.{flat_map}
use Rattle.pw_obis.specs.declared.reference.Register.{Register}
use Rattle.pw_obis.specs.Registers.{registers}
use Rattle.pw_model.specs.declared.records.ReadingRow.{ReadingRow}
use Rattle.pw_model.specs.Lists.{AreReadings}
use Rattle.pw_report.specs.Exports.{reading_line}
use Rattle.pw_report.specs.Names.{meter_name}
use Rattle.pw_report.specs.Reports.{IsAsked}
use Rattle.pw_report.specs.inner.Rows.{HasText}
use Rattle.pw_report.proofs.readings.put_meter.Given as goal

abbrev pub invariant-loop-register : goal.invariant-loop-register
invariant-loop-register g l = record {
  text : g.S.Shelf.clean l.book.shelf → (readings : Register → List ReadingRow) → ((r : Register) → AreReadings (g.S.Shelf.state l.fn.book.shelf).content.records l.meter.0 r (readings r)) →
      (before : List ℕ) → HasText l.fn.rows before [] →
      HasText l.rows (before ++ flat_map (λ r. flat_map (reading_line (meter_name l.fn.book.office l.meter.0) r) (readings r)) (take l.register-index registers)) [];
  asked : IsAsked g.S.Shelf 0 l.fn.book l.book;
}
