use Rattle.pw_model.proofs.NextPoint.{IsPassed}
use Rattle.pw_model.proofs.plain.fall_list.next_point.Given as goal

abbrev pub invariant-loop-place : goal.invariant-loop-place
invariant-loop-place l = IsPassed l.in_order l.meter.0 l.register l.index l.place
