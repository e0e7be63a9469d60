use Rattle.std.proofs.Common.{map}
use Rattle.std.specs.Map.Iter.{deref}
use Rattle.pw_model.specs.Kinds.{ListsHeld}
use Rattle.pw_shelf.specs.inner.Kinds.{IsOfKind}
use Rattle.pw_shelf.proofs.held.Held.all_of.Given as goal

abbrev pub invariant-loop-entry : goal.invariant-loop-entry
invariant-loop-entry l = ListsHeld (IsOfKind l.kind) (map deref l.yielded) l.found.items
