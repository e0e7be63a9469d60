use Rattle.std.proofs.Common.{rules}
use Rattle.pw_frame.proofs.frames.Frames.new.Goals as goal

pub returns-clause-open : goal.returns-clause-open
returns-clause-open c = search rules depth 0 fits 100

pub invariant_of-result : goal.invariant_of-result
invariant_of-result c = search rules depth 0 fits 100

pub returns-clause-body : goal.returns-clause-body
returns-clause-body c = search rules depth 0 fits 100
