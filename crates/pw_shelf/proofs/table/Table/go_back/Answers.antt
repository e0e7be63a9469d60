use Rattle.std.proofs.Common.{rules}
use Rattle.pw_shelf.proofs.table.Table.go_back.Goals as goal

pub loop-key-preserved : goal.loop-key-preserved
loop-key-preserved g c = search rules
