use Rattle.std.proofs.Common.{rules}
use Rattle.pw_bills.proofs.stretches.add_stretch.Goals as goal

pub loop-start-init : goal.loop-start-init
loop-start-init c = search rules depth 3 fits 300
