use Rattle.std.proofs.Common.{rules}
use Rattle.pw_commands.proofs.store.close_store.Goals as goal

pub returns-in-Err : goal.returns-in-Err
returns-in-Err c = search rules
