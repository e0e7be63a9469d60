use Rattle.std.proofs.Common.{◌∙◌}
use Rattle.pw_time.specs.declared.instant.TheConstants.{END_SECOND}
use Rattle.pw_tariff.specs.Office.{office_of}
use Rattle.pw_model.specs.Counting.{contents_at}
use Rattle.pw_model.specs.Energy.{asked_seconds}
use Rattle.pw_model.specs.inner.Search.{at_instants}
use Rattle.pw_model.specs.inner.Tariff.{asked_of}
use Rattle.pw_model.proofs.PlainEnergy.{instants-alone, all-early}
use Rattle.pw_model.proofs.plain.energies.points_energy.Goals as goal

pub returns : goal.returns
returns c =
    let asked = asked_seconds (contents_at c.args.entries.now) (asked_of (office_of c.args.terms.now) c.args.owner c.args.period c.args.band.0) c.args.meter.0 in
    c.energy.ensures (at_instants asked) END_SECOND (λ t b l h. h) (all-early c.args.points.now c.requires.instants) ∙ instants-alone c.args.points.now asked c.requires.instants
