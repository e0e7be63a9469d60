use Rattle.std.proofs.Common.{◌≡◌, ℕ, ◌<◌, length, get_or}
use Rattle.pw_tariff.specs.declared.limits.TheConstants.{LONGEST_METER_ID}
use Rattle.pw_record.specs.Told.{capital}
use Rattle.pw_record.proofs.origin.meter_in_capitals.Given as goal

abbrev pub invariant-loop-i : goal.invariant-loop-i
invariant-loop-i l = (length l.id ≡ LONGEST_METER_ID) × ((k : ℕ) → k < l.i → capital (get_or l.identifier k 0) ≡ get_or l.id k 0)
