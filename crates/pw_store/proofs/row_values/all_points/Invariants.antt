use Rattle.std.proofs.Common.{◌≡◌, map, take}
use Rattle.pw_model.specs.Lists.{IsInOrder}
use Rattle.pw_shelf.specs.Seconds.{by_second}
use Rattle.pw_store.specs.inner.Seconds.{point_told}
use Rattle.pw_store.proofs.InTurn.{IsLastSecond}
use Rattle.pw_store.proofs.row_values.all_points.Given as goal

abbrev pub invariant-loop-row : goal.invariant-loop-row
invariant-loop-row l = record {
  told : l.found.items ≡ map point_told (take l.row-index l.rows);
  rising : IsInOrder by_second l.found.items;
  last : IsLastSecond l.last l.found.items;
}
