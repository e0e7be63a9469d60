use Rattle.std.proofs.Common.{rules}
use Rattle.pw_shelf.proofs.kept.Kept.go_back.Goals as goal

pub returns-clause-back : goal.returns-clause-back
returns-clause-back c = search rules depth 0 fits 100
