use Rattle.std.proofs.Common.{◌≡◌, ◌+◌, drop}
use Rattle.pw_tariff.specs.Office.{office_of}
use Rattle.pw_model.specs.declared.records.TotalKey.{TotalKey}
use Rattle.pw_parts.specs.inner.Given.{meter_given, registers_given}
use Rattle.pw_parts.specs.inner.Totals.{total_in}
use Rattle.pw_parts.proofs.energies.add_meter.Given as goal

-- what the registers so far gave, with what is still to come
abbrev pub invariant-loop-register : goal.invariant-loop-register
invariant-loop-register l = (k : TotalKey) → total_in l.totals.rows k + registers_given (office_of l.basis.office.now) l.records l.meter.0 (drop l.register-index l.register-items) k ≡ total_in l.initial.totals.rows k + meter_given (office_of l.basis.office.now) l.records l.meter.0 k
