use Rattle.std.proofs.Common.{rules}
use Rattle.pw_parts.proofs.counting.counts_with.Goals as goal

pub returns-in-Withdrawal : goal.returns-in-Withdrawal
returns-in-Withdrawal c = search rules depth 0 fits 100
