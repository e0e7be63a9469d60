use Rattle.std.proofs.Common.{◌≡◌, ◌+◌, ap, ◌∙◌, arith}
use Rattle.pw_tariff.specs.Office.{office_of}
use Rattle.pw_parts.specs.inner.Totals.{total_in}
use Rattle.pw_parts.proofs.Meters.{meters-all, meters-none, meter-room, meter-next}
use Rattle.pw_parts.proofs.energies.add_meters.Goals as goal

pub loop-meter-init : goal.loop-meter-init
loop-meter-init c = λ k. meters-none (office_of c.args.basis.now.office.now) c.args.records.now k (total_in c.args.totals.now.rows k)

pub add_meter-requires-clause-room : goal.add_meter-requires-clause-room
add_meter-requires-clause-room c = λ k.
    let l = c.loop-meter-test.true in
    let e = c.meters-meter-end.ensures.count in
    meter-room (office_of c.args.basis.now.office.now) c.args.records.now c.loop-meter.meter k (total_in c.args.totals.now.rows k) (total_in c.loop-meter.totals.rows k) (omega (arith, l, e)) (c.loop-meter.invariant k) (c.requires.room k)

pub loop-meter-preserved : goal.loop-meter-preserved
loop-meter-preserved c = λ k.
    meter-next (office_of c.args.basis.now.office.now) c.args.records.now c.loop-meter.meter k (total_in c.args.totals.now.rows k) (total_in c.loop-meter.totals.rows k) (total_in c.add_meter.new.totals.rows k)
    (c.loop-meter.invariant k) (c.in_ok-add_meter.ensures k)

pub returns : goal.returns
returns c = λ k.
    let office = office_of c.args.basis.now.office.now in
    let all : c.loop-meter.meter ≡ office.meters = omega (arith, c.meters-meter-end.ensures.count, c.loop-meter.auto.meter-end, c.loop-meter-test.false) in
    c.loop-meter.invariant k ∙ ap (λ n. total_in c.args.totals.now.rows k + n) (meters-all office c.args.records.now c.loop-meter.meter k all)
