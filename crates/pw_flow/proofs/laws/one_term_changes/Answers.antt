use Rattle.pw_flow.proofs.Sums.{sum-change}
use Rattle.pw_flow.proofs.laws.one_term_changes.Goals as goal

pub returns : goal.returns
returns c = sum-change
