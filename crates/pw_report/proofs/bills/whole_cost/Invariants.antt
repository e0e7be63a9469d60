use Rattle.std.proofs.Common.{◌≡◌, ◌*◌, ◌^◌, ◌≤◌}
use Rattle.pw_flow.specs.Time.{sum_over}
use Rattle.pw_tariff.specs.Office.{office_of}
use Rattle.pw_model.specs.Energy.{over_bands}
use Rattle.pw_report.specs.inner.Told.{bill_of_sheet}
use Rattle.pw_report.proofs.bills.whole_cost.Given as goal

abbrev pub invariant-loop-period : goal.invariant-loop-period
invariant-loop-period l = record {
  sum : l.nano ≡ sum_over (λ p. over_bands (office_of l.sheet.office.now) (λ b. (bill_of_sheet l.sheet).cost p b l.direction)) 0 l.period;
  few : l.nano ≤ l.period * 2 ^ 104;
}
