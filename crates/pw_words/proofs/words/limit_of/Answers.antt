use Rattle.std.proofs.Common.{rules}
use Rattle.pw_words.proofs.words.limit_of.Goals as goal

pub returns-then-limit-le-MOST_RECORDS : goal.returns-then-limit-le-MOST_RECORDS
returns-then-limit-le-MOST_RECORDS c = search rules
