use Rattle.pw_model.proofs.Truth.{empty-true}
use Rattle.pw_model.proofs.laws.empty_content_is_true.Goals as goal

pub returns : goal.returns
returns c = empty-true
