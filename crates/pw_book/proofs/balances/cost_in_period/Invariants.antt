use Rattle.std.proofs.Common.{◌≡◌, ◌+◌, ◌*◌, ◌^◌, ◌≤◌, Some}
use Rattle.pw_flow.specs.Time.{sum_over}
use Rattle.pw_tariff.specs.Office.{office_of}
use Rattle.pw_model.specs.Energy.{energy_in_period}
use Rattle.pw_book.specs.Asking.{IsOnlyAsked}
use Rattle.pw_book.proofs.balances.cost_in_period.Given as goal

abbrev pub invariant-loop-band : goal.invariant-loop-band
invariant-loop-band g l = record {
  sum : g.S.Shelf.clean l.shelf → l.nano ≡ sum_over (λ b. (office_of l.office).price l.period.0 b l.direction * energy_in_period (office_of l.office) (g.S.Shelf.state l.initial.shelf).content.records (Some l.account) l.period.0 b l.direction) 0 l.band;
  few : l.nano ≤ l.band * 2 ^ 96;
  tally : (g.S.Shelf.state l.shelf).tally ≤ (g.S.Shelf.state l.initial.shelf).tally + 2 * l.band;
  asked : IsOnlyAsked g.S.Shelf 0 l.initial.shelf l.shelf;
}
