use Rattle.std.proofs.Common.{◌≡◌, drop}
use Rattle.toml.specs.View.{items_view}
use Rattle.pw_tariff.specs.Text.{integers_of}
use Rattle.pw_tariff.proofs.Listed.{after}
use Rattle.pw_tariff.proofs.table.integers.Given as goal

abbrev pub invariant-loop-value : goal.invariant-loop-value
invariant-loop-value l = integers_of (items_view l.array.items) ≡ after l.integers.items (integers_of (items_view (drop l.value-index l.array.items)))
