use Rattle.pw_time.proofs.DayFacts.{has_hours}
use Rattle.pw_time.proofs.laws.local_day_has_23_to_25_hours.Goals as goal

pub returns : goal.returns
returns c = has_hours
