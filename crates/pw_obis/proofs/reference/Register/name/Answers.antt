use Rattle.std.proofs.Common.{rules}
use Rattle.pw_obis.proofs.reference.Register.name.Goals as goal

pub returns-in-E1 : goal.returns-in-E1
returns-in-E1 c = search rules depth 0 fits 100
