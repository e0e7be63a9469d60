use Rattle.std.proofs.Common.{rules}
use Rattle.pw_read.proofs.run.status_of.Goals as goal

pub returns-in-Body-Refused : goal.returns-in-Body-Refused
returns-in-Body-Refused c = search rules depth 0 fits 100
