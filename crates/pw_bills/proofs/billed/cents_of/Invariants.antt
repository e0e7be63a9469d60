use Rattle.std.proofs.Common.{◌≡◌, ◌*◌, ◌≤◌, ◌^◌, take}
use Rattle.std.specs.List.{sum_by}
use Rattle.pw_bills.specs.inner.TopUpRows.{cents_within}
use Rattle.pw_bills.proofs.billed.cents_of.Given as goal

-- what the rows so far add up to
abbrev pub invariant-loop-row : goal.invariant-loop-row
invariant-loop-row l = record {
  sum : l.cents ≡ sum_by (cents_within l.from l.until) (take l.row-index l.rows);
  few : l.cents ≤ l.row-index * 2 ^ 32;
}
