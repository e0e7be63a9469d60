use Rattle.std.proofs.Common.{◌≡◌, map, take, drop}
use Rattle.std.specs.List.{list_all}
use Rattle.pw_tariff.specs.Text.{whole_of}
use Rattle.pw_tariff.specs.Words.{is_price}
use Rattle.pw_tariff.proofs.periods.read_prices.Given as goal

abbrev pub invariant-loop-value : goal.invariant-loop-value
invariant-loop-value l = record {
  range : list_all is_price l.values ≡ list_all is_price (drop l.value-index l.values);
  prices : l.prices.items ≡ map whole_of (take l.value-index l.values);
}
