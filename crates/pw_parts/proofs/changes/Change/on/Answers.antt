use Rattle.std.proofs.Common.{rules}
use Rattle.pw_parts.proofs.changes.Change.on.Goals as goal

pub returns-in-Loses : goal.returns-in-Loses
returns-in-Loses c = search rules depth 0 fits 100
