use Rattle.std.proofs.Common.{rules}
use Rattle.pw_time.proofs.days.is_short.Goals as goal

pub returns-then-month-lt100 : goal.returns-then-month-lt100
returns-then-month-lt100 c = search rules depth 0 fits 100
