use Rattle.std.proofs.Common.{◌≡◌, ◌++◌}
use Rattle.pw_report.specs.Layout.{listed_below}
use Rattle.pw_report.specs.Reports.{IsAsked}
use Rattle.pw_report.specs.Tables.{energy_line}
use Rattle.pw_report.proofs.statements.put_energies.Given as goal

abbrev pub invariant-loop-band : goal.invariant-loop-band
invariant-loop-band g l = record {
  text : g.S.Shelf.clean l.book.shelf → l.text.items ≡ l.fn.text.items ++ listed_below l.band (energy_line l.fn.book.office (g.S.Shelf.state l.fn.book.shelf).content.records l.account.0);
  asked : IsAsked g.S.Shelf 0 l.fn.book l.book;
}
