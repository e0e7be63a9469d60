use Rattle.std.proofs.Common.{◌≡◌, ◌*◌, ◌^◌, ◌≤◌}
use Rattle.pw_flow.specs.Time.{sum_over}
use Rattle.pw_report.specs.inner.Told.{day_energies}
use Rattle.pw_report.proofs.days.day_wh.Given as goal

abbrev pub invariant-loop-period : goal.invariant-loop-period
invariant-loop-period l = record {
  sum : l.wh ≡ sum_over (λ p. day_energies l.told.energies.now l.day p l.band.0 l.direction) 0 l.period;
  few : l.wh ≤ l.period * 2 ^ 64;
}
