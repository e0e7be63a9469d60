use Rattle.pw_flow.proofs.Pairs.{energy-window}
use Rattle.pw_flow.proofs.laws.other_window.Goals as goal

pub returns : goal.returns
returns c = energy-window
