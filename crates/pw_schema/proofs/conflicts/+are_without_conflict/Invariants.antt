use Rattle.std.proofs.Common.{length}
use Rattle.pw_schema.proofs.conflicts.+are_without_conflict.Given as goal

abbrev pub decreases-are_without_conflict : goal.decreases-are_without_conflict
decreases-are_without_conflict l = length l.rows.now
