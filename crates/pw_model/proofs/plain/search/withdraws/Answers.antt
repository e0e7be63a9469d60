use Rattle.std.proofs.Common.{rules}
use Rattle.pw_model.proofs.plain.search.withdraws.Goals as goal

pub returns-in-Withdrawal : goal.returns-in-Withdrawal
returns-in-Withdrawal c = search rules depth 0 fits 100
