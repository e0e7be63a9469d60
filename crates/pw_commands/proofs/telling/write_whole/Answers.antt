use Rattle.std.proofs.Common.{arith, length-drop}
use Rattle.std.proofs.lemmas.List.{take_rest}
use Rattle.std.proofs.KnownBytes.{Appends-kept}
use Rattle.pw_read.proofs.Written.{Appends-further}
use Rattle.pw_commands.proofs.telling.write_whole.Goals.{in-Ok-write, in-Err-write+else-ne}
use Rattle.pw_commands.proofs.telling.write_whole.Goals as goal

pub calls-preserved : goal.calls-preserved
calls-preserved g c =
    elim c.match-write.branch [
      | in-Ok-write w ↦
          let went = rw (take_rest c.args.bytes.now c.calls.at) at w.in-Ok-write.ensures.bytes in
          let bound = rw (take_rest c.args.bytes.now c.calls.at) at w.in-Ok-write.ensures.bound in
          record {
            within = omega (arith, w.at-is, bound, length-drop c.calls.at c.args.bytes.now);
            written = rw w.at-is
                (Appends-further _ _ _ c.calls.at w.in-Ok-write.n c.args.bytes.now c.calls.invariant.written went);
          }
      | in-Err-write+else-ne w ↦ record {
        within = omega (arith, w.at-is);
        written = rw w.at-is (Appends-kept _ _ _ _ c.calls.invariant.written w.in-Err-write.ensures.bytes);
      }
    ]
