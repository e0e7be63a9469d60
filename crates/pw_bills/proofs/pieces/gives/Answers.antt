use Rattle.std.proofs.Common.{rules}
use Rattle.pw_bills.proofs.pieces.gives.Goals as goal

pub returns-then-stretch-eq0 : goal.returns-then-stretch-eq0
returns-then-stretch-eq0 c = search rules depth 0 fits 100
