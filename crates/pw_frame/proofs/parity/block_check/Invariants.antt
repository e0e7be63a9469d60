use Rattle.std.proofs.Common.{take}
use Rattle.pw_frame.specs.Check.{IsBlockCheck}
use Rattle.pw_frame.proofs.parity.block_check.Given as goal

abbrev pub invariant-loop-byte : goal.invariant-loop-byte
invariant-loop-byte l = IsBlockCheck (take l.byte-index l.bytes) l.check
