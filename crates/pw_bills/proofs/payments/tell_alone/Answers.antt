use Rattle.std.proofs.Common.{rules}
use Rattle.pw_bills.proofs.payments.tell_alone.Goals as goal

pub returns-in-One : goal.returns-in-One
returns-in-One c = search rules depth 0 fits 100
