use Rattle.std.proofs.Common.{◌≡◌, map, string_bytes, drop}
use Rattle.toml.specs.View.{items_view}
use Rattle.pw_tariff.specs.Text.{texts_of}
use Rattle.pw_tariff.proofs.Listed.{after}
use Rattle.pw_tariff.proofs.table.texts.Given as goal

abbrev pub invariant-loop-value : goal.invariant-loop-value
invariant-loop-value l = texts_of (items_view l.array.items) ≡ after (map string_bytes l.texts.items) (texts_of (items_view (drop l.value-index l.array.items)))
