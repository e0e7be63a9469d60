use Rattle.std.proofs.Common.{arith}
use Rattle.pw_obis.proofs.Taken.{place_has}
use Rattle.pw_obis.proofs.block.Block.checked.Goals as goal

pub returns-in-None-clause-block : goal.returns-in-None-clause-block
returns-in-None-clause-block c = let m = place_has c.args.bytes.now 0 (omega arith) in (m.0, rw (← c.in-None.ensures) at m.1)

pub returns-in-Some-clause-fault : goal.returns-in-Some-clause-fault
returns-in-Some-clause-fault c = let m = place_has c.args.bytes.now 0 (omega arith) in (_, (m.0, rw (← c.in-Some.ensures) at m.1))
