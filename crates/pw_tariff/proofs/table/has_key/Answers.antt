use Rattle.std.proofs.Common.{◌∙◌, sym}
use Rattle.toml.proofs.Views.{table_get}
use Rattle.pw_tariff.proofs.Listed.{some-mapped}
use Rattle.pw_tariff.proofs.table.has_key.Goals as goal

pub returns : goal.returns
returns c = rw (← table_get c.get.result c.args.key.now c.args.table.now.entries c.get.ensures.value) (c.is_some.ensures ∙ sym (some-mapped _ c.get.result))
