use Rattle.pw_model.proofs.Existence.{lists-exist}
use Rattle.pw_model.proofs.laws.lists_exist.Goals as goal

pub returns : goal.returns
returns c = lists-exist
