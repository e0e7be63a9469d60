use Rattle.std.proofs.Common.{◌≡◌, ◌+◌, ◌*◌, ◌^◌, ◌≤◌, Some, length}
use Rattle.pw_flow.specs.Time.{sum_over}
use Rattle.pw_tariff.specs.Office.{office_of}
use Rattle.pw_model.specs.Counting.{contents_at}
use Rattle.pw_model.specs.inner.Tariff.{period_cost}
use Rattle.pw_book.specs.Asking.{IsOnlyAsked}
use Rattle.pw_book.proofs.balances.cost_held.Given as goal

abbrev pub invariant-loop-period : goal.invariant-loop-period
invariant-loop-period g l = record {
  sum : g.S.Shelf.clean l.shelf → l.nano ≡ sum_over (λ p. period_cost (office_of l.office) (contents_at (g.S.Shelf.state l.initial.shelf).content.records) (Some l.account) p l.direction) 0 l.period;
  few : l.nano ≤ l.period * 2 ^ 104;
  tally : (g.S.Shelf.state l.shelf).tally ≤ (g.S.Shelf.state l.initial.shelf).tally + 2 * (l.period * length l.office.bands);
  asked : IsOnlyAsked g.S.Shelf 0 l.initial.shelf l.shelf;
}
