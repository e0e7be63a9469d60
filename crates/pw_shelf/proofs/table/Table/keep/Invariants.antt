use Rattle.std.proofs.Common.{◌≡◌, length}
use Rattle.pw_shelf.specs.Table.{at_now}
use Rattle.pw_shelf.proofs.table.Table.keep.Given as goal

abbrev pub invariant-loop-key : goal.invariant-loop-key
invariant-loop-key g l = (k : g.row.K.Denot) → at_now g.K.Ord.cmp l.self k ≡ at_now g.K.Ord.cmp l.initial.self k

abbrev pub decreases-loop-key : goal.decreases-loop-key
decreases-loop-key g l = length l.self.changed.entries
