use Rattle.std.proofs.Common.{rules}
use Rattle.pw_model.proofs.plain.energies.is_of.Goals as goal

pub returns-then-is_same_owner : goal.returns-then-is_same_owner
returns-then-is_same_owner c = search rules depth 0 fits 100
