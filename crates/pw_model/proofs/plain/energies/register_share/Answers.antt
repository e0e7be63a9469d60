use Rattle.std.proofs.Common.{sym, ◌∙◌, arith}
use Rattle.pw_tariff.specs.Office.{office_of}
use Rattle.pw_model.specs.inner.Tariff.{asked_of}
use Rattle.pw_model.proofs.PlainEnergy.{plain-share, plain-share-fits}
use Rattle.pw_model.proofs.plain.energies.register_share.Goals as goal

pub overflow_cast-result : goal.overflow_cast-result
overflow_cast-result c =
    let e = plain-share-fits (office_of c.args.terms.now) c.args.entries.now (asked_of (office_of c.args.terms.now) c.args.owner c.args.period c.args.band.0) c.args.meter.0 c.args.register c.in_ok-points.points.items c.points_energy-energy.result c.requires.office c.requires.entries c.requires.few c.requires.meter
    (sym c.counts.ensures ∙ c.if-not-counts.false) c.in_ok-points.ensures.instants c.in_ok-points.ensures.values (rw c.deref.ensures.value at c.points_energy-energy.ensures) in
    omega (arith, e)

pub returns-clause-share : goal.returns-clause-share
returns-clause-share c =
    plain-share (office_of c.args.terms.now) c.args.entries.now (asked_of (office_of c.args.terms.now) c.args.owner c.args.period c.args.band.0) c.args.meter.0 c.args.register c.in_ok-points.points.items c.points_energy-energy.result c.requires.office c.requires.entries
    (sym c.counts.ensures ∙ c.if-not-counts.false) c.in_ok-points.ensures.instants c.in_ok-points.ensures.values (rw c.deref.ensures.value at c.points_energy-energy.ensures)

pub returns-clause-bound : goal.returns-clause-bound
returns-clause-bound c =
    plain-share-fits (office_of c.args.terms.now) c.args.entries.now (asked_of (office_of c.args.terms.now) c.args.owner c.args.period c.args.band.0) c.args.meter.0 c.args.register c.in_ok-points.points.items c.points_energy-energy.result c.requires.office c.requires.entries c.requires.few c.requires.meter
    (sym c.counts.ensures ∙ c.if-not-counts.false) c.in_ok-points.ensures.instants c.in_ok-points.ensures.values (rw c.deref.ensures.value at c.points_energy-energy.ensures)
