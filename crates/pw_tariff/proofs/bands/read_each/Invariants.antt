use Rattle.std.proofs.Common.{◌≡◌, map, take}
use Rattle.pw_tariff.specs.Held.{bands_of}
use Rattle.pw_tariff.specs.inner.Held.{table_in}
use Rattle.pw_tariff.specs.inner.Held.{letters_of}
use Rattle.pw_tariff.specs.Text.{band_checks, band_of_table, band_name_of}
use Rattle.pw_tariff.specs.inner.Checks.{bands_in_turn}
use Rattle.pw_tariff.proofs.Order.{ComesTo}
use Rattle.pw_tariff.proofs.bands.read_each.Given as goal

abbrev pub invariant-loop-value : goal.invariant-loop-value
invariant-loop-value l = record {
  checks : ComesTo (bands_in_turn (map table_in l.value-items)) band_name_of band_checks table_in (letters_of l.bands.items) l.value-items l.value-index;
  bands : bands_of l.bands.items ≡ map band_of_table (map table_in (take l.value-index l.value-items));
}
