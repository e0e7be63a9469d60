use Rattle.std.proofs.Common.{length}
use Rattle.pw_schema.proofs.of_tables.+are_of_tables.Given as goal

abbrev pub decreases-are_of_tables : goal.decreases-are_of_tables
decreases-are_of_tables g l = length l.found.now
