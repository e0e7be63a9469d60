use Rattle.std.proofs.Common.{rules}
use Rattle.pw_bills.proofs.stretches.lies_behind.Goals as goal

pub returns-then-lt : goal.returns-then-lt
returns-then-lt c = search rules depth 0 fits 100
