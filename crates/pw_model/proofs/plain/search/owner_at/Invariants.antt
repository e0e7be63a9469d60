use Rattle.pw_model.proofs.Found.{IsLookedFor}
use Rattle.pw_model.proofs.plain.search.owner_at.Given as goal

abbrev pub invariant-loop-start : goal.invariant-loop-start
invariant-loop-start l = IsLookedFor l.entries l.meter.0 l.until l.second

abbrev pub decreases-loop-start : goal.decreases-loop-start
decreases-loop-start l = l.until
