use Rattle.std.proofs.Common.{rules}
use Rattle.pw_parts.proofs.by_second.reading_shown.Goals as goal

pub returns : goal.returns
returns c = search rules depth 0 fits 100
