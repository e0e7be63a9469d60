use Rattle.std.proofs.Common.{rules}
use Rattle.pw_frame.proofs.whole.readout_size.Goals as goal

pub returns-clause-size : goal.returns-clause-size
returns-clause-size c = search rules depth 0 fits 100
