use Rattle.std.proofs.Common.{rules}
use Rattle.pw_time.proofs.instant.Instant.of.Goals as goal

pub returns-then-seconds-le-LAST_SECOND-clause-value : goal.returns-then-seconds-le-LAST_SECOND-clause-value
returns-then-seconds-le-LAST_SECOND-clause-value c = search rules depth 0 fits 100

pub returns-else-seconds-ge-FIRST_SECOND-clause-within : goal.returns-else-seconds-ge-FIRST_SECOND-clause-within
returns-else-seconds-ge-FIRST_SECOND-clause-within c = search rules depth 0 fits 100
