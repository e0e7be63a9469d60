use Rattle.std.proofs.Common.{◌≡◌, ◌*◌, ◌≤◌, Some}
use Rattle.pw_flow.specs.Time.{sum_over}
use Rattle.pw_tariff.specs.Office.{office_of}
use Rattle.pw_model.specs.Counting.{contents_at}
use Rattle.pw_model.specs.inner.Tariff.{period_cost}
use Rattle.pw_model.proofs.plain.balances.cost.Given as goal

abbrev pub invariant-loop-period : goal.invariant-loop-period
invariant-loop-period l = record {
  sum : l.nano ≡ sum_over (λ p. period_cost (office_of l.terms) (contents_at l.entries) (Some l.account) p l.direction) 0 l.period;
  bound : l.nano ≤ l.period * 7999999999920000000000000000;
}
