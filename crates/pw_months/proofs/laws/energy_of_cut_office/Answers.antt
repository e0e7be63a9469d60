use Rattle.pw_months.proofs.CutOffice.{energy-of_cut_office}
use Rattle.pw_months.proofs.laws.energy_of_cut_office.Goals as goal

pub returns : goal.returns
returns c = energy-of_cut_office
