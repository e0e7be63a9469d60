use Rattle.std.proofs.Common.{◌++◌, [], ◌≡◌, false, Some, None}
use Rattle.std.specs.List.{flat_map}
use Rattle.pw_model.specs.Energy.{account}
use Rattle.pw_report.specs.Exports.{csv_line, energies_header, energy_row_line, owner_rows}
use Rattle.pw_report.specs.Layout.{listed_below}
use Rattle.pw_report.specs.Reports.{IsAsked}
use Rattle.pw_report.specs.inner.Rows.{HasText}
use Rattle.pw_report.proofs.energies.export_energy.Given as goal

abbrev pub invariant-loop-account : goal.invariant-loop-account
invariant-loop-account g l = record {
  text : g.S.Shelf.clean l.book.shelf →
      HasText l.rows (csv_line energies_header ++ flat_map (energy_row_line l.fn.book.office) (owner_rows l.fn.book.office (g.S.Shelf.state l.fn.book.shelf).content.records None
      ++ listed_below l.account (λ a. owner_rows l.fn.book.office (g.S.Shelf.state l.fn.book.shelf).content.records (Some (account a))))) [];
  asked : IsAsked g.S.Shelf 0 l.fn.book l.book;
  open_yet : l.fn.book.shut ≡ false;
}
