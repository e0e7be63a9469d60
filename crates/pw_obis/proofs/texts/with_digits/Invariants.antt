use Rattle.std.proofs.Common.{◌≡◌, ◌≤◌, drop}
use Rattle.std.specs.Str.Parse.{digits_value_after, AllDigits}
use Rattle.pw_obis.specs.declared.energy.TheConstants.{LARGEST_WATT_HOURS}
use Rattle.pw_obis.proofs.texts.with_digits.Given as goal

abbrev pub invariant-loop-b : goal.invariant-loop-b
invariant-loop-b l =
    (l.value ≤ LARGEST_WATT_HOURS)
    × (digits_value_after 10 l.value (drop l.b-index l.digits) ≡ digits_value_after 10 l.number l.digits)
    × AllDigits 10 (drop l.b-index l.digits)
