use Rattle.std.proofs.Common.{◌≡◌, ◌*◌, ◌^◌, ◌≤◌}
use Rattle.pw_flow.specs.Time.{sum_over}
use Rattle.pw_tariff.specs.Office.{office_of}
use Rattle.pw_bills.specs.inner.Settling.{told_cost}
use Rattle.pw_bills.proofs.billed.cost_in_period.Given as goal

abbrev pub invariant-loop-band : goal.invariant-loop-band
invariant-loop-band l = record {
  sum : l.nano ≡ sum_over (λ b. told_cost (office_of l.office) l.energies l.stretch l.period.0 b l.direction) 0 l.band;
  few : l.nano ≤ l.band * 2 ^ 96;
}
