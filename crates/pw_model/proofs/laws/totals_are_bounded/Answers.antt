use Rattle.pw_model.proofs.Bounded.{totals-bounded}
use Rattle.pw_model.proofs.laws.totals_are_bounded.Goals as goal

pub returns : goal.returns
returns c = totals-bounded
