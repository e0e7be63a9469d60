use Rattle.std.proofs.Common.{rules}
use Rattle.pw_parts.proofs.changes.gain_of.Goals as goal

pub returns-in-Ok : goal.returns-in-Ok
returns-in-Ok c = search rules depth 0 fits 100
