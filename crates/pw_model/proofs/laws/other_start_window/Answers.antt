use Rattle.pw_model.proofs.Windows.{other-window}
use Rattle.pw_model.proofs.laws.other_start_window.Goals as goal

pub returns : goal.returns
returns c = other-window
