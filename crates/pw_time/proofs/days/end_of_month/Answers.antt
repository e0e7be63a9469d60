use Rattle.std.proofs.Common.{rules}
use Rattle.pw_time.proofs.days.end_of_month.Goals as goal

pub returns-else-month-lt12-clause-ends : goal.returns-else-month-lt12-clause-ends
returns-else-month-lt12-clause-ends c = search rules depth 3 fits 300
