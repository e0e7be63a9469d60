use Rattle.pw_months.proofs.Told.{energy-told}
use Rattle.pw_months.proofs.laws.energy_goes_by_what_is_told.Goals as goal

pub returns : goal.returns
returns c = energy-told
