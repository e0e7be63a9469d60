use Rattle.pw_moving.proofs.Figures.{carried-figures}
use Rattle.pw_moving.proofs.laws.carried_figures_stay.Goals as goal

pub returns : goal.returns
returns c = carried-figures
