use Rattle.std.proofs.Common.{rules}
use Rattle.pw_frame.proofs.hexadecimal.digit.Goals as goal

pub returns-else-value-lt10-clause-text : goal.returns-else-value-lt10-clause-text
returns-else-value-lt10-clause-text c = search rules depth 0 fits 100
