use Rattle.std.proofs.Common.{rules}
use Rattle.pw_flow.specs.Flow.{level}
use Rattle.pw_flow.proofs.plain.level_at.Goals as goal

pub returns-clause-level : goal.returns-clause-level
unfolding level
returns-clause-level c = search rules depth 0 fits 100

pub overflow_mul-result : goal.overflow_mul-result
unfolding level
overflow_mul-result c = search rules depth 0 fits 100
