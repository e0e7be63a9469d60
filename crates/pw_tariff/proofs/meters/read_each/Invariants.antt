use Rattle.std.proofs.Common.{◌≡◌, map, take}
use Rattle.pw_tariff.specs.Held.{meter_of}
use Rattle.pw_tariff.specs.inner.Held.{table_in}
use Rattle.pw_tariff.specs.inner.Held.{ids_of}
use Rattle.pw_tariff.specs.Text.{meter_checks, meter_of_table, id_of}
use Rattle.pw_tariff.specs.inner.Checks.{meters_in_turn}
use Rattle.pw_tariff.proofs.Order.{ComesTo}
use Rattle.pw_tariff.proofs.meters.read_each.Given as goal

abbrev pub invariant-loop-value : goal.invariant-loop-value
invariant-loop-value l = record {
  checks : ComesTo (meters_in_turn (map table_in l.value-items)) id_of meter_checks table_in (ids_of l.meters.items) l.value-items l.value-index;
  meters : map meter_of l.meters.items ≡ map meter_of_table (map table_in (take l.value-index l.value-items));
}
