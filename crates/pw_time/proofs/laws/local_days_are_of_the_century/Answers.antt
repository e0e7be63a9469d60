use Rattle.pw_time.proofs.DayFacts.{first_and_last}
use Rattle.pw_time.proofs.laws.local_days_are_of_the_century.Goals as goal

pub returns : goal.returns
returns c = first_and_last
