use Rattle.std.proofs.Common.{rules}
use Rattle.pw_book.proofs.start_change.with_neighbours.Goals as goal

pub returns : goal.returns
returns c = search rules depth 1 fits 100
