use Rattle.std.proofs.Common.{rules}
use Rattle.pw_parts.proofs.changes.Side.other.Goals as goal

pub returns-in-Gains : goal.returns-in-Gains
returns-in-Gains c = search rules depth 0 fits 100
