use Rattle.std.proofs.Common.{refl}
use Rattle.pw_record.proofs.origin.block_origin.Goals as goal

pub returns-in_ok-instant-in-Readouts-clause-ok : goal.returns-in_ok-instant-in-Readouts-clause-ok
returns-in_ok-instant-in-Readouts-clause-ok c = rw c.in-Readouts.is (refl, c.in_ok-instant-in-Readouts.ensures.ok)
