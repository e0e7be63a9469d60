use Rattle.pw_model.proofs.Truth.{true-bounded}
use Rattle.pw_model.proofs.laws.true_totals_are_bounded.Goals as goal

pub returns : goal.returns
returns c = true-bounded
