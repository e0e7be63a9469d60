use Rattle.pw_moving.proofs.Agreed.{agreeing-keep}
use Rattle.pw_moving.proofs.laws.agreeing_offices_keep_the_truth.Goals as goal

pub returns : goal.returns
returns c = agreeing-keep
