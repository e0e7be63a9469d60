use Rattle.pw_time.proofs.DayFacts.{begins_once}
use Rattle.pw_time.proofs.laws.local_day_begins_once.Goals as goal

pub returns : goal.returns
returns c = begins_once
