use Rattle.std.proofs.Common.{◌∙◌}
use Rattle.pw_model.specs.declared.records.TotalKey.TheVariants.{Energy}
use Rattle.pw_book.proofs.energies.energy_in_held.Goals as goal

pub returns-clause-energy : goal.returns-clause-energy
returns-clause-energy g c = λ k.
    c.in_ok-wh.ensures.total k ∙ (c.requires.truth (c.total_held.ensures.asked.kept.clean k)).totals (Energy c.args.owner c.args.period c.args.band c.args.direction)

pub returns-clause-tally : goal.returns-clause-tally
returns-clause-tally g c = assumption
