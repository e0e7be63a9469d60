use Rattle.std.proofs.Common.{◌≡◌, ◌+◌, ◌*◌, ◌^◌, ◌≤◌}
use Rattle.pw_flow.specs.Time.{sum_over}
use Rattle.pw_tariff.specs.Office.{office_of}
use Rattle.pw_model.specs.Energy.{energy_in_period}
use Rattle.pw_book.specs.Asking.{IsOnlyAsked}
use Rattle.pw_book.proofs.energies.energy_held.Given as goal

abbrev pub invariant-loop-period : goal.invariant-loop-period
invariant-loop-period g l = record {
  sum : g.S.Shelf.clean l.shelf → l.sum ≡ sum_over (λ p. energy_in_period (office_of l.office) (g.S.Shelf.state l.initial.shelf).content.records l.owner p l.band.0 l.direction) 0 l.period;
  few : l.sum ≤ l.period * 2 ^ 64;
  tally : (g.S.Shelf.state l.shelf).tally ≤ (g.S.Shelf.state l.initial.shelf).tally + 2 * l.period;
  asked : IsOnlyAsked g.S.Shelf 0 l.initial.shelf l.shelf;
}
