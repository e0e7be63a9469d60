use Rattle.pw_model.proofs.Counting.{one-is_counting}
use Rattle.pw_model.proofs.laws.one_is_counting.Goals as goal

pub returns : goal.returns
returns c = one-is_counting
