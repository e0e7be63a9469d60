use Rattle.std.proofs.Common.{take}
use Rattle.pw_schema.specs.Rows.{ReadsRows}
use Rattle.pw_schema.specs.Judges.{IsLast}
use Rattle.pw_schema.proofs.reading.read_rows.Given as goal

abbrev pub invariant-loop-row : goal.invariant-loop-row
invariant-loop-row l = record {
  read : ReadsRows l.kind (take l.row-index l.rows) l.found.items;
  last : IsLast l.last l.found.items;
}
