use Rattle.std.proofs.Common.{◌≡◌, ◌*◌, ◌^◌, ◌≤◌}
use Rattle.pw_flow.specs.Time.{sum_over}
use Rattle.pw_tariff.specs.Office.{office_of, price_at}
use Rattle.pw_model.specs.Energy.{energy_in_period}
use Rattle.pw_report.specs.Reports.{IsAsked}
use Rattle.pw_report.proofs.energies.cost.Given as goal

abbrev pub invariant-loop-period : goal.invariant-loop-period
invariant-loop-period g l = record {
  sum : g.S.Shelf.clean l.book.shelf →
      l.nano ≡ sum_over (λ p. price_at l.fn.book.office p l.band.0 l.direction * energy_in_period (office_of l.fn.book.office) (g.S.Shelf.state l.fn.book.shelf).content.records l.owner p l.band.0 l.direction) 0 l.period;
  few : l.nano ≤ l.period * 2 ^ 96;
  asked : IsAsked g.S.Shelf 0 l.fn.book l.book;
}
