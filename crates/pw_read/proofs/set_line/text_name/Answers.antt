use Rattle.std.proofs.Common.{rules}
use Rattle.pw_read.proofs.set_line.text_name.Goals as goal

pub returns-in_default-clause-some : goal.returns-in_default-clause-some
returns-in_default-clause-some c = search rules depth 0 fits 100
