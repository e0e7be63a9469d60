use Rattle.pw_model.proofs.Answers.{lists-are_at_most_one}
use Rattle.pw_model.proofs.laws.lists_are_at_most_one.Goals as goal

pub returns : goal.returns
returns c = lists-are_at_most_one
