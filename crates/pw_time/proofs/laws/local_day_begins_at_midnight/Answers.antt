use Rattle.pw_time.proofs.DayFacts.{at_midnight}
use Rattle.pw_time.proofs.laws.local_day_begins_at_midnight.Goals as goal

pub returns : goal.returns
returns c = at_midnight
