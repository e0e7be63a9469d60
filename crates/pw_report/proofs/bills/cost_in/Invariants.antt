use Rattle.std.proofs.Common.{◌≡◌, ◌*◌, ◌^◌, ◌≤◌}
use Rattle.pw_flow.specs.Time.{sum_over}
use Rattle.pw_report.specs.inner.Told.{bill_of_sheet}
use Rattle.pw_report.proofs.bills.cost_in.Given as goal

abbrev pub invariant-loop-band : goal.invariant-loop-band
invariant-loop-band l = record {
  sum : l.nano ≡ sum_over (λ b. (bill_of_sheet l.sheet).cost l.period.0 b l.direction) 0 l.band;
  few : l.nano ≤ l.band * 2 ^ 96;
}
