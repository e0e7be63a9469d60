use Rattle.pw_moving.proofs.Figures.{same-lines}
use Rattle.pw_moving.proofs.laws.same_lines_same_tariff.Goals as goal

pub returns : goal.returns
returns c = same-lines
