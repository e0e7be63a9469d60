use Rattle.std.proofs.Common.{arith, length-drop, rules}
use Rattle.std.proofs.lemmas.List.{take_rest}
use Rattle.pw_http.proofs.KnownLemmas.{Appends-further}
use Rattle.pw_http.proofs.send.send.Goals as goal

pub loop-at-preserved : goal.loop-at-preserved
loop-at-preserved g c =
    let n = c.in-Ok.n in
    let went = rw (take_rest c.args.bytes.now c.loop-at.at) at c.in-Ok.ensures.bytes in
    record {
      within = omega (arith, rw (take_rest c.args.bytes.now c.loop-at.at) at c.in-Ok.ensures.bound, length-drop c.loop-at.at c.args.bytes.now);
      written = Appends-further _ _ _ c.loop-at.at n c.args.bytes.now c.loop-at.invariant.within c.loop-at.invariant.written went;
    }

pub returns-in-Ok-eq0-clause-written : goal.returns-in-Ok-eq0-clause-written
returns-in-Ok-eq0-clause-written g c = search rules
