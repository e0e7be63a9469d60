use Rattle.std.proofs.Common.{◌≤◌, length, take}
use Rattle.std.specs.Io.KnownBytes.{Appends}
use Rattle.pw_commands.proofs.telling.write_whole.Given as goal

abbrev pub invariant-calls : goal.invariant-calls
invariant-calls g l = record {
  within : l.at ≤ length l.bytes;
  written : Appends (g.O.Write.contents l.fn.out) (g.O.Write.contents l.out) (take l.at l.bytes);
}
