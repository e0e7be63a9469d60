use Rattle.std.proofs.Common.{rules}
use Rattle.pw_book.proofs.posting.weigh.Goals as goal

pub returns-clause-tally : goal.returns-clause-tally
returns-clause-tally g c = search rules depth 0 fits 100

pub returns-clause-fresh : goal.returns-clause-fresh
returns-clause-fresh g c = search rules depth 0 fits 100
