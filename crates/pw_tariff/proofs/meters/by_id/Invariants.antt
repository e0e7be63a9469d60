use Rattle.pw_tariff.specs.Held.{AreByIdUpTo}
use Rattle.pw_tariff.proofs.meters.by_id.Given as goal

abbrev pub invariant-loop-i : goal.invariant-loop-i
invariant-loop-i l = AreByIdUpTo l.meters l.i l.places
