use Rattle.pw_model.proofs.Answers.{order_counts_nothing}
use Rattle.pw_model.proofs.laws.order_counts_nothing.Goals as goal

pub returns : goal.returns
returns c = order_counts_nothing
