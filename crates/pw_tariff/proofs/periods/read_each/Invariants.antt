use Rattle.std.proofs.Common.{◌≡◌, map, take}
use Rattle.pw_time.specs.declared.instant.TheConstants.{FIRST_SECOND}
use Rattle.pw_tariff.specs.Held.{bands_of, period_of}
use Rattle.pw_tariff.specs.inner.Held.{table_in}
use Rattle.pw_tariff.specs.Text.{period_of_table, periods_in_turn}
use Rattle.pw_tariff.proofs.Turns.{ComesTo}
use Rattle.pw_tariff.proofs.periods.read_each.Given as goal

abbrev pub invariant-loop-value : goal.invariant-loop-value
invariant-loop-value l = record {
  checks : ComesTo (periods_in_turn (bands_of l.bands) FIRST_SECOND (map table_in l.value-items)) (bands_of l.bands) table_in l.before l.value-items l.value-index;
  periods : map period_of l.periods.items ≡ map period_of_table (map table_in (take l.value-index l.value-items));
}
