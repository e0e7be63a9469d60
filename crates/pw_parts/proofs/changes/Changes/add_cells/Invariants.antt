use Rattle.std.proofs.Common.{◌≡◌, ◌+◌, drop}
use Rattle.std.specs.List.{sum_by}
use Rattle.pw_model.specs.declared.records.TotalKey.{TotalKey}
use Rattle.pw_parts.specs.Changes.{gathered, other_side}
use Rattle.pw_parts.proofs.Gathering.{cell_for}
use Rattle.pw_parts.proofs.changes.Changes.add_cells.Given as goal

-- what was gathered so far, with what is still to come
abbrev pub invariant-loop-cell : goal.invariant-loop-cell
invariant-loop-cell l = record {
  told : (k : TotalKey) → gathered l.side l.self.rows k + sum_by (cell_for l.direction k) (drop l.cell-index l.cells) ≡ gathered l.side l.initial.self.rows k + sum_by (cell_for l.direction k) l.cells;
  other : (k : TotalKey) → gathered (other_side l.side) l.self.rows k ≡ gathered (other_side l.side) l.initial.self.rows k;
}
