use Rattle.std.proofs.Common.{rules}
use Rattle.pw_frame.proofs.whole.telegram_size.Goals as goal

pub returns-then-stated-computed-clause-fault : goal.returns-then-stated-computed-clause-fault
returns-then-stated-computed-clause-fault c = search rules depth 0 fits 100
