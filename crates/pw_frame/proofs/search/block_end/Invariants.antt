use Rattle.pw_frame.specs.Frame.{Plain}
use Rattle.pw_frame.proofs.search.block_end.Given as goal

abbrev pub invariant-loop-i : goal.invariant-loop-i
invariant-loop-i l = Plain l.rest l.start l.i
