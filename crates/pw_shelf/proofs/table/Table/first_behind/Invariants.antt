use Rattle.std.proofs.Common.{◌≡◌, length}
use Rattle.std.specs.declared.ops.Bound.TheVariants.{Excluded, Unbounded}
use Rattle.pw_shelf.specs.inner.Table.{left_of, rows_between}
use Rattle.pw_shelf.proofs.table.Table.first_behind.Given as goal

abbrev pub invariant-loop-row : goal.invariant-loop-row
invariant-loop-row g l = left_of g.K.Ord.cmp l.self l.rows ≡ rows_between g.K.Ord.cmp (Excluded l.fn.key) Unbounded l.self

abbrev pub decreases-loop-row : goal.decreases-loop-row
decreases-loop-row g l = length l.rows
