use Rattle.std.proofs.Common.{rules}
use Rattle.pw_commands.proofs.files.read_whole.Goals as goal

pub returns-in-Ok-clause-size : goal.returns-in-Ok-clause-size
returns-in-Ok-clause-size c = search rules
