use Rattle.std.proofs.Common.{rules}
use Rattle.pw_bills.proofs.pieces.add_pair.Goals as goal

pub returns : goal.returns
returns c = search rules depth 0 fits 100
