use Rattle.std.proofs.Common.{◌≤◌, length, take}
use Rattle.std.specs.Io.KnownBytes.{Appends}
use Rattle.pw_read.proofs.run.write.Given as goal

abbrev pub invariant-calls : goal.invariant-calls
invariant-calls g l = record {
  within : l.at ≤ length l.bytes;
  written : Appends (g.W.Write.contents l.fn.writer) (g.W.Write.contents l.writer) (take l.at l.bytes);
}
