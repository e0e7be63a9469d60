use Rattle.std.proofs.Common.{◌+◌, sym, ap, ◌∙◌, arith}
use Rattle.std.proofs.lemmas.Result.{on_ok_weaker}
use Rattle.pw_tariff.specs.Office.{office_of}
use Rattle.pw_parts.specs.inner.Totals.{total_in}
use Rattle.pw_parts.proofs.Meters.{points-told, register-is, register-none}
use Rattle.pw_parts.proofs.energies.add_register.Goals as goal

pub returns-then-not-counts : goal.returns-then-not-counts
returns-then-not-counts c = λ k.
    let z = register-none c.args.basis.now.office.now c.args.records.now c.args.meter.0 c.args.register (sym c.counts.ensures ∙ c.if-not-counts.true) k in
    omega (arith, z)

pub add_pairs-requires : goal.add_pairs-requires
add_pairs-requires c = record { few = λ k. let h = c.requires.room k in omega (arith, h) }

pub returns : goal.returns
returns c =
    let told = points-told (office_of c.args.basis.now.office.now) c.args.records.now c.readings_of-readings.result.now c.args.meter c.args.register c.in_ok-points.points.items c.deref.result.now
    c.requires.counted c.readings_of-readings.ensures c.in_ok-points.ensures c.deref.ensures.value in
    let g = register-is c.args.basis.now.office.now c.args.records.now c.args.meter.0 c.args.register c.args.owners.now c.direction_of-direction.result c.deref.result.now c.direction_of-direction.ensures
    c.requires.counted.of_office c.requires.owners (sym c.counts.ensures ∙ c.if-not-counts.false) told in
    on_ok_weaker c.add_pairs.result (λ h k. h k ∙ ap (λ n. total_in c.args.totals.now.rows k + n) (g k)) (c.add_pairs.ensures.gathered told.rising)
