use Rattle.pw_time.proofs.CalendarFacts.{last_sunday_is}
use Rattle.pw_time.proofs.laws.last_sunday_is_last.Goals as goal

pub returns : goal.returns
returns c = last_sunday_is
