use Rattle.std.proofs.Common.{rules}
use Rattle.pw_frame.proofs.frame.FrameFault.told.Goals as goal

pub returns-in-NoEnd-clause-name : goal.returns-in-NoEnd-clause-name
returns-in-NoEnd-clause-name c = search rules depth 0 fits 100

pub returns-in-Trailer-clause-number : goal.returns-in-Trailer-clause-number
returns-in-Trailer-clause-number c = search rules depth 0 fits 100
