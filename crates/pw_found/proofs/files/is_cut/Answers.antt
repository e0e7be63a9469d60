use Rattle.std.proofs.Common.{rules}
use Rattle.pw_found.proofs.files.is_cut.Goals as goal

pub returns-clause-ok : goal.returns-clause-ok
returns-clause-ok g c = search rules depth 3 fits 300
