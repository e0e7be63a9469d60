use Rattle.std.proofs.Common.{rules}
use Rattle.pw_shelf.proofs.counted_calls.CountShelfShelf.contents_at.Goals as goal

pub invariant_of-self-2 : goal.invariant_of-self-2
invariant_of-self-2 g c = search rules depth 0 fits 100
