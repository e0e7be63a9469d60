use Rattle.std.proofs.Common.{rules}
use Rattle.pw_model.proofs.amounts.left_over.Goals as goal

pub returns : goal.returns
returns c = search rules depth 3 fits 300
