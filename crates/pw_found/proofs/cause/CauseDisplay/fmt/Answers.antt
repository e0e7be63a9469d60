use Rattle.std.proofs.Common.{rules}
use Rattle.pw_found.proofs.cause.CauseDisplay.fmt.Goals as goal

pub returns-clause-writes : goal.returns-clause-writes
returns-clause-writes g c = search rules depth 0 fits 100
