use Rattle.std.proofs.Common.{rules}
use Rattle.pw_words.proofs.words.clock_named.Goals as goal

pub returns-in-local-clause-some : goal.returns-in-local-clause-some
returns-in-local-clause-some c = search rules
