use Rattle.std.proofs.Common.{◌≡◌, ◌*◌, ◌≤◌, Some}
use Rattle.pw_flow.specs.Time.{sum_over}
use Rattle.pw_tariff.specs.Office.{office_of}
use Rattle.pw_model.specs.Counting.{contents_at}
use Rattle.pw_model.specs.Energy.{energy_where, of_class}
use Rattle.pw_model.proofs.plain.balances.cost_in.Given as goal

abbrev pub invariant-loop-band : goal.invariant-loop-band
invariant-loop-band l = record {
  sum : l.nano ≡ sum_over (λ b. (office_of l.terms).price l.period.0 b l.direction * energy_where (office_of l.terms) (contents_at l.entries) l.direction (of_class (office_of l.terms) (Some l.account) l.period.0 b)) 0 l.band;
  bound : l.nano ≤ l.band * 999999999990000000000000000;
}
