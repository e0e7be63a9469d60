use Rattle.std.proofs.Common.{rules}
use Rattle.pw_found.proofs.cause.refusal_of_log.Goals as goal

pub returns-in_default : goal.returns-in_default
returns-in_default c = search rules depth 0 fits 100
