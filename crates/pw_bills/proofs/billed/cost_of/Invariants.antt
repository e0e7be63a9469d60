use Rattle.std.proofs.Common.{◌≡◌, ◌*◌, ◌^◌, ◌≤◌}
use Rattle.pw_flow.specs.Time.{sum_over}
use Rattle.pw_tariff.specs.Office.{office_of}
use Rattle.pw_bills.specs.inner.Settling.{period_told}
use Rattle.pw_bills.proofs.billed.cost_of.Given as goal

abbrev pub invariant-loop-period : goal.invariant-loop-period
invariant-loop-period l = record {
  sum : l.nano ≡ sum_over (λ p. period_told (office_of l.office) l.energies l.stretch p l.direction) 0 l.period;
  few : l.nano ≤ l.period * 2 ^ 104;
}
