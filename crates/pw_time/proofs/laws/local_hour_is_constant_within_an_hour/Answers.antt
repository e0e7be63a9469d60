use Rattle.pw_time.proofs.SummerFacts.{local_same}
use Rattle.pw_time.proofs.laws.local_hour_is_constant_within_an_hour.Goals as goal

pub returns : goal.returns
returns c = local_same
