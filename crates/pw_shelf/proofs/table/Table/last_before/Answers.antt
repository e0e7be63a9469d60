use Rattle.std.proofs.Common.{rules}
use Rattle.pw_shelf.proofs.table.Table.last_before.Goals as goal

pub loop-row-init : goal.loop-row-init
loop-row-init g c = search rules depth 0 fits 100
