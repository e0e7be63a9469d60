use Rattle.std.proofs.Common.{map}
use Rattle.std.specs.Map.Iter.{deref}
use Rattle.pw_model.specs.Counting.{standing_among}
use Rattle.pw_model.proofs.Counting.{Tells}
use Rattle.pw_shelf.proofs.held.Held.contents_at.Given as goal

abbrev pub invariant-loop-entry : goal.invariant-loop-entry
invariant-loop-entry l = Tells (standing_among l.self.records.keys (map deref l.yielded)) l.key l.contents
