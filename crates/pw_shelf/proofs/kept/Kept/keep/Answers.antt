use Rattle.std.proofs.Common.{rules}
use Rattle.pw_shelf.proofs.kept.Kept.keep.Goals as goal

pub returns-clause-same : goal.returns-clause-same
returns-clause-same c = search rules depth 0 fits 100
