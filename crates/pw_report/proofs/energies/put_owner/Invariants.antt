use Rattle.std.proofs.Common.{◌++◌, ℕ, List, [], ◌∷◌}
use Rattle.std.specs.List.{flat_map}
use Rattle.pw_tariff.specs.declared.ids.Direction.TheVariants.{Import, Export}
use Rattle.pw_report.specs.Exports.{energy_row, energy_row_line}
use Rattle.pw_report.specs.Layout.{listed_below}
use Rattle.pw_report.specs.Reports.{IsAsked}
use Rattle.pw_report.specs.inner.Rows.{HasText}
use Rattle.pw_report.proofs.energies.put_owner.Given as goal

abbrev pub invariant-loop-band : goal.invariant-loop-band
invariant-loop-band g l = record {
  text : g.S.Shelf.clean l.book.shelf → (before : List ℕ) → HasText l.fn.rows before [] →
      HasText l.rows (before ++ flat_map (energy_row_line l.fn.book.office) (listed_below l.band (λ b. energy_row l.fn.book.office (g.S.Shelf.state l.fn.book.shelf).content.records l.owner b Import ∷ energy_row l.fn.book.office (g.S.Shelf.state l.fn.book.shelf).content.records l.owner b Export ∷ []))) [];
  asked : IsAsked g.S.Shelf 0 l.fn.book l.book;
}
