use Rattle.pw_flow.proofs.Shares.{classes-add}
use Rattle.pw_flow.proofs.laws.classes_add_up.Goals as goal

pub returns : goal.returns
returns c = classes-add
