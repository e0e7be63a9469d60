use Rattle.std.proofs.Common.{rules}
use Rattle.pw_shelf.proofs.points.Points.stretch.Goals as goal

pub loop-key-init : goal.loop-key-init
loop-key-init c = search rules depth 0 fits 100
