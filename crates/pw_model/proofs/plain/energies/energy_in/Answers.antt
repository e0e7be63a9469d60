use Rattle.pw_model.specs.inner.Tariff.{in_tariff}
use Rattle.pw_model.proofs.plain.energies.energy_in.Goals as goal

pub returns : goal.returns
unfolding in_tariff
returns c = c.energy_asked.ensures
