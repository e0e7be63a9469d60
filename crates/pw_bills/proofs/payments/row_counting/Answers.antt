use Rattle.std.proofs.Common.{rules}
use Rattle.pw_bills.proofs.payments.row_counting.Goals as goal

pub returns-in_err-contents-clause-tally : goal.returns-in_err-contents-clause-tally
returns-in_err-contents-clause-tally g c = search rules depth 0 fits 100
