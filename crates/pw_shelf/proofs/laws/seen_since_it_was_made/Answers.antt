use Rattle.std.proofs.Common.{rules}
use Rattle.pw_shelf.proofs.laws.seen_since_it_was_made.Goals as goal

pub returns : goal.returns
returns g c = search rules depth 0 fits 100
