use Rattle.pw_flow.proofs.Kept.{same-seconds}
use Rattle.pw_flow.proofs.laws.same_seconds_same_energy.Goals as goal

pub returns : goal.returns
returns c = same-seconds
