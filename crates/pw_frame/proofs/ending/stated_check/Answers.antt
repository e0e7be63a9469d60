use Rattle.std.proofs.Common.{rules}
use Rattle.pw_frame.proofs.ending.stated_check.Goals as goal

pub returns-then-rest-end-eq-ETX-clause-some : goal.returns-then-rest-end-eq-ETX-clause-some
returns-then-rest-end-eq-ETX-clause-some c = search rules depth 0 fits 100
