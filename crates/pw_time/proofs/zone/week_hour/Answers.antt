use Rattle.std.proofs.Common.{rules}
use Rattle.pw_time.proofs.zone.week_hour.Goals as goal

pub returns-clause-hour : goal.returns-clause-hour
returns-clause-hour c = search rules depth 0 fits 100

pub returns-clause-day : goal.returns-clause-day
returns-clause-day c = search rules depth 0 fits 100
