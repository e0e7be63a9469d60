use Rattle.pw_moving.proofs.Carried.{carried-stand}
use Rattle.pw_moving.proofs.laws.carried_records_stand.Goals as goal

pub returns : goal.returns
returns c = carried-stand
