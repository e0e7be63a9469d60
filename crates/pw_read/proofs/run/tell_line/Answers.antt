use Rattle.std.proofs.Common.{rules}
use Rattle.pw_read.proofs.run.tell_line.Goals as goal

pub returns-in-Ok : goal.returns-in-Ok
returns-in-Ok g c = search rules depth 0 fits 100
