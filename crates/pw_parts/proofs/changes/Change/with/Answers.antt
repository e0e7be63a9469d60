use Rattle.std.proofs.Common.{rules}
use Rattle.pw_parts.proofs.changes.Change.with.Goals as goal

pub returns-in-Gains-clause-more : goal.returns-in-Gains-clause-more
returns-in-Gains-clause-more c = search rules depth 0 fits 100
