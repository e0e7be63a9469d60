use Rattle.std.proofs.Common.{rules}
use Rattle.pw_commands.proofs.telling.finish.Goals as goal

pub returns-clause-fault : goal.returns-clause-fault
returns-clause-fault g c = search rules

pub returns-in-Ok-write_whole-clause-text : goal.returns-in-Ok-write_whole-clause-text
returns-in-Ok-write_whole-clause-text g c = search rules
