use Rattle.std.proofs.Common.{rules}
use Rattle.pw_model.proofs.registers.direction_of.Goals as goal

pub returns-in-E0 : goal.returns-in-E0
returns-in-E0 c = search rules depth 0 fits 100
