use Rattle.std.proofs.Common.{rules}
use Rattle.pw_store.proofs.opening.roll_back_and_wake.Goals as goal

pub returns-clause-settled : goal.returns-clause-settled
returns-clause-settled g c = search rules depth 0 fits 100
