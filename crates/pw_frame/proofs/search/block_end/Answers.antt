use Rattle.std.proofs.Common.{rules}
use Rattle.pw_frame.proofs.search.block_end.Goals as goal

pub loop-i-preserved : goal.loop-i-preserved
loop-i-preserved c = search rules depth 3 fits 300
