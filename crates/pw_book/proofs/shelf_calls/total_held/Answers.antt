use Rattle.std.proofs.Common.{rules}
use Rattle.pw_book.proofs.shelf_calls.total_held.Goals as goal

pub returns-clause-tally : goal.returns-clause-tally
returns-clause-tally g c = search rules depth 0 fits 100
