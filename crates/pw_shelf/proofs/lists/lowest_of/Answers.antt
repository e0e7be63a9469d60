use Rattle.std.proofs.Common.{rules}
use Rattle.pw_shelf.proofs.lists.lowest_of.Goals as goal

pub returns : goal.returns
returns c = search rules depth 0 fits 100
