use Rattle.std.proofs.Common.{◌≡◌, map, take, drop}
use Rattle.toml.specs.View.{items_view}
use Rattle.pw_tariff.specs.Text.{tables_of}
use Rattle.pw_tariff.specs.inner.Held.{table_in}
use Rattle.pw_tariff.proofs.Listed.{after}
use Rattle.pw_tariff.proofs.table.are_tables.Given as goal

abbrev pub invariant-loop-value : goal.invariant-loop-value
invariant-loop-value l = tables_of (items_view l.array.items) ≡ after (map table_in (take l.value-index l.array.items)) (tables_of (items_view (drop l.value-index l.array.items)))
