use Rattle.pw_model.proofs.Answers.{count-is_length}
use Rattle.pw_model.proofs.laws.count_is_length.Goals as goal

pub returns : goal.returns
returns c = count-is_length
