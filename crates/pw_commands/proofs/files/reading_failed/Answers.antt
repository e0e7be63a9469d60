use Rattle.std.proofs.Common.{rules}
use Rattle.pw_commands.proofs.files.reading_failed.Goals as goal

pub returns-in_default : goal.returns-in_default
returns-in_default c = search rules
