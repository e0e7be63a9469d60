use Rattle.std.proofs.Common.{refl}
use Rattle.toml.proofs.Views.{table_get}
use Rattle.pw_tariff.proofs.table.integer_at.Goals as goal

pub returns-in_err-get : goal.returns-in_err-get
returns-in_err-get c =
    let none = rw c.in_err-get.is at c.branch-get.ensures in
    rw (c.from_residual.ensures, ← rw none at (table_get c.get.result c.args.key.now c.args.table.now.entries c.get.ensures.value)) refl

pub returns : goal.returns
returns c =
    let some = rw c.in_ok-get.is at c.branch-get.ensures in
    rw (← rw some at (table_get c.get.result c.args.key.now c.args.table.now.entries c.get.ensures.value)) c.as_integer.ensures
