use Rattle.std.proofs.Common.{rules}
use Rattle.pw_commands.proofs.fault.FaultDisplay.fmt.Goals as goal

pub returns-in-TooLarge-clause-writes : goal.returns-in-TooLarge-clause-writes
returns-in-TooLarge-clause-writes g c = search rules
