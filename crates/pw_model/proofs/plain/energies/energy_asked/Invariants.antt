use Rattle.std.proofs.Common.{◌≡◌}
use Rattle.pw_flow.specs.Time.{sum_over}
use Rattle.pw_tariff.specs.Office.{office_of}
use Rattle.pw_model.specs.Counting.{contents_at}
use Rattle.pw_model.specs.Energy.{meter_share}
use Rattle.pw_model.specs.inner.Tariff.{asked_of}
use Rattle.pw_model.proofs.plain.energies.energy_asked.Given as goal

abbrev pub invariant-loop-meter : goal.invariant-loop-meter
invariant-loop-meter l =
    let office = office_of l.terms in
    l.total ≡ sum_over (meter_share office (contents_at l.entries) l.direction (asked_of office l.owner l.period l.band.0)) 0 l.meter
