use Rattle.std.proofs.Common.{rules}
use Rattle.pw_model.proofs.registers.register_place.Goals as goal

pub returns-in-I2-clause-place : goal.returns-in-I2-clause-place
returns-in-I2-clause-place c = search rules depth 0 fits 100
