use Rattle.pw_moving.proofs.Adopted.{adopted-agree}
use Rattle.pw_moving.proofs.laws.adopted_offices_agree.Goals as goal

pub returns : goal.returns
returns c = adopted-agree
