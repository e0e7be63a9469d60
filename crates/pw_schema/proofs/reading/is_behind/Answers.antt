use Rattle.std.proofs.Common.{rules}
use Rattle.pw_schema.proofs.reading.is_behind.Goals as goal

pub returns-in-Less : goal.returns-in-Less
returns-in-Less c = search rules depth 0 fits 100
