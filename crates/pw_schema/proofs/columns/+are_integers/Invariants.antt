use Rattle.std.proofs.Common.{length}
use Rattle.pw_schema.proofs.columns.+are_integers.Given as goal

abbrev pub decreases-are_integers : goal.decreases-are_integers
decreases-are_integers l = length l.columns.now
