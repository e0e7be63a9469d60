use Rattle.pw_model.specs.inner.Search.{FallsFrom}
use Rattle.pw_model.proofs.SoFar.{IsSoFar}
use Rattle.pw_model.proofs.plain.fall_list.falls_among.Given as goal

abbrev pub invariant-loop-index : goal.invariant-loop-index
invariant-loop-index l = IsSoFar (FallsFrom l.in_order) l.in_order l.index l.falls.items
