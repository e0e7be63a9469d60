use Rattle.std.proofs.Common.{arith}
use Rattle.pw_frame.proofs.BlockChecks.{parity_more}
use Rattle.pw_frame.proofs.parity.block_check.Goals as goal

pub loop-byte-preserved : goal.loop-byte-preserved
loop-byte-preserved c = parity_more c.args.bytes.now c.loop-byte.byte-index c.loop-byte.check c.loop-byte-test.true (omega arith) c.loop-byte.invariant
