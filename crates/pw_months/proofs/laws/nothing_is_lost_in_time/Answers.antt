use Rattle.pw_months.proofs.InTime.{nothing-is_lost_in_time}
use Rattle.pw_months.proofs.laws.nothing_is_lost_in_time.Goals as goal

pub returns : goal.returns
returns c = nothing-is_lost_in_time
