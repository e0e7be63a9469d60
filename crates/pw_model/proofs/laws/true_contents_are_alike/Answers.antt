use Rattle.pw_model.proofs.Truth.{true-alike}
use Rattle.pw_model.proofs.laws.true_contents_are_alike.Goals as goal

pub returns : goal.returns
returns c = true-alike
