use Rattle.std.proofs.Common.{◌≡◌, ◌+◌, refl, ap, ◌∙◌, arith}
use Rattle.pw_flow.specs.Time.{sum_over}
use Rattle.pw_tariff.specs.Office.{office_of}
use Rattle.pw_model.specs.Counting.{contents_at}
use Rattle.pw_model.specs.Energy.{energy_where, meter_share}
use Rattle.pw_model.specs.inner.Tariff.{asked_of}
use Rattle.pw_model.proofs.PlainEnergy.{sum-next, sum-to, energy-fits}
use Rattle.pw_model.proofs.plain.energies.energy_asked.Goals as goal

pub loop-meter-init : goal.loop-meter-init
unfolding sum_over
loop-meter-init c = refl

pub overflow_add-total : goal.overflow_add-total
unfolding energy_where
overflow_add-total c =
    let office = office_of c.args.terms.now in
    let f = meter_share office (contents_at c.args.entries.now) c.args.direction (asked_of office c.args.owner c.args.period c.args.band.0) in
    let a = sum-next f c.loop-meter.meter in
    let b = sum-to f (c.loop-meter.meter + 1) office.meters (omega (arith, c.meters-meter-end.ensures)) in
    let d = energy-fits office c.args.entries.now c.args.direction (asked_of office c.args.owner c.args.period c.args.band.0) c.requires.office c.requires.entries c.requires.few in
    let e = c.in_ok-total.ensures in
    omega (arith, a, b, d, e, c.loop-meter.invariant)

pub loop-meter-preserved : goal.loop-meter-preserved
loop-meter-preserved c =
    let office = office_of c.args.terms.now in
    let f = meter_share office (contents_at c.args.entries.now) c.args.direction (asked_of office c.args.owner c.args.period c.args.band.0) in
    let a = sum-next f c.loop-meter.meter in
    let e = c.in_ok-total.ensures in
    omega (arith, a, e, c.loop-meter.invariant)

pub returns : goal.returns
unfolding energy_where
returns c =
    let office = office_of c.args.terms.now in
    let f = meter_share office (contents_at c.args.entries.now) c.args.direction (asked_of office c.args.owner c.args.period c.args.band.0) in
    let e : c.loop-meter.meter ≡ office.meters = omega (arith, c.meters-meter-end.ensures, c.loop-meter.auto.meter-end, c.loop-meter-test.false) in
    c.loop-meter.invariant ∙ ap (sum_over f 0) e
