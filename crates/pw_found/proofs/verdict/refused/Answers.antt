use Rattle.std.proofs.Common.{rules}
use Rattle.pw_found.proofs.verdict.refused.Goals as goal

pub returns-in-Nothing-Ask : goal.returns-in-Nothing-Ask
returns-in-Nothing-Ask c = search rules depth 0 fits 100
