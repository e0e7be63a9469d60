use Rattle.std.proofs.Common.{ℕ, ◌<◌, slice_index_or}
use Rattle.pw_tariff.specs.declared.cells.Cell.{Cell}
use Rattle.pw_tariff.specs.Cells.{IsBeforeCell}
use Rattle.pw_tariff.proofs.cells.before.Given as goal

abbrev pub invariant-loop-i : goal.invariant-loop-i
invariant-loop-i l = (k : ℕ) (d : Cell) → k < l.i → IsBeforeCell (slice_index_or l.cells k d) l.share
