use Rattle.pw_moving.proofs.Agreed.{agreeing-alike}
use Rattle.pw_moving.proofs.laws.agreeing_offices_are_alike.Goals as goal

pub returns : goal.returns
returns c = agreeing-alike
