use Rattle.std.proofs.Common.{rules}
use Rattle.pw_shelf.proofs.laws.memory_abandons.Goals as goal

pub returns-clause-succeeds : goal.returns-clause-succeeds
returns-clause-succeeds c = search rules depth 0 fits 100

pub returns-clause-ended : goal.returns-clause-ended
returns-clause-ended c = search rules depth 0 fits 100

pub returns-clause-tally : goal.returns-clause-tally
returns-clause-tally c = assumption
