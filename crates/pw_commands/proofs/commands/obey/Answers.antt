use Rattle.std.proofs.Common.{rules}
use Rattle.pw_commands.proofs.commands.obey.Goals as goal

pub returns-in-Read : goal.returns-in-Read
returns-in-Read g c = search rules
