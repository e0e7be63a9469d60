use Rattle.std.proofs.Common.{rules}
use Rattle.pw_commands.proofs.fault.Fault.status.Goals as goal

pub returns-in-Post-Full-3 : goal.returns-in-Post-Full-3
returns-in-Post-Full-3 c = search rules

pub returns-in-Office-Memory : goal.returns-in-Office-Memory
returns-in-Office-Memory c = search rules
