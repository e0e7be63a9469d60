use Rattle.std.proofs.Common.{rules}
use Rattle.pw_words.proofs.words.table_named.Goals as goal

pub returns-in-energy : goal.returns-in-energy
returns-in-energy c = search rules
