use Rattle.std.proofs.Common.{rules}
use Rattle.pw_time.proofs.instant.Instant.seconds.Goals as goal

pub returns-clause-value : goal.returns-clause-value
returns-clause-value c = search rules depth 0 fits 100
