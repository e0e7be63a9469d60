use Rattle.std.proofs.Common.{◌≡◌, ◌+◌}
use Rattle.pw_flow.specs.Time.{sum_over}
use Rattle.pw_tariff.specs.Office.{office_of}
use Rattle.pw_model.specs.declared.records.TotalKey.{TotalKey}
use Rattle.pw_parts.specs.inner.Given.{meter_given}
use Rattle.pw_parts.specs.inner.Totals.{total_in}
use Rattle.pw_parts.proofs.energies.add_meters.Given as goal

abbrev pub invariant-loop-meter : goal.invariant-loop-meter
invariant-loop-meter l = (k : TotalKey) → total_in l.totals.rows k ≡ total_in l.initial.totals.rows k + sum_over (λ m. meter_given (office_of l.basis.office.now) l.records m k) 0 l.meter
