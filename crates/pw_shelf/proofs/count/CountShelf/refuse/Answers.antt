use Rattle.std.proofs.Common.{rules}
use Rattle.pw_shelf.proofs.count.CountShelf.refuse.Goals as goal

pub invariant_of-self : goal.invariant_of-self
invariant_of-self g c = search rules depth 0 fits 100
