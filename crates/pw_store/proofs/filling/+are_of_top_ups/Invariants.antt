use Rattle.std.proofs.Common.{length}
use Rattle.pw_store.proofs.filling.+are_of_top_ups.Given as goal

abbrev pub decreases-are_of_top_ups : goal.decreases-are_of_top_ups
decreases-are_of_top_ups l = length l.totals.now
