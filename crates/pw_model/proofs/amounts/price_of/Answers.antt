use Rattle.std.proofs.Common.{rules}
use Rattle.pw_model.proofs.amounts.price_of.Goals as goal

pub returns-clause-price : goal.returns-clause-price
returns-clause-price c = search rules depth 0 fits 100

pub returns-clause-bound : goal.returns-clause-bound
returns-clause-bound c = search rules depth 0 fits 100
