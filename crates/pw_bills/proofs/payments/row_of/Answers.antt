use Rattle.std.proofs.Common.{rules}
use Rattle.pw_bills.proofs.payments.row_of.Goals as goal

pub returns-then-other-account : goal.returns-then-other-account
returns-then-other-account c = search rules depth 0 fits 100
