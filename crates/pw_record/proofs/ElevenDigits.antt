-- Eleven digits are at most the largest energy.
use Rattle.std.proofs.Common.{ℕ, ◌≤◌, List, length, arith}
use Rattle.std.specs.Str.Parse.{AllDigits, digits_value}
use Rattle.std.proofs.lemmas.Str.Parse.{digits_value_short, numerals_by_value, tells_digits}
use Rattle.pw_obis.specs.declared.energy.TheConstants.{LARGEST_WATT_HOURS}
use Rattle.pw_record.specs.WattHours.{IsWattHours}

pub few-digits : (text : List ℕ) → AllDigits 10 text → length text ≤ 11 → digits_value 10 text ≤ LARGEST_WATT_HOURS
few-digits text d l = omega (arith, digits_value_short (numerals_by_value (AllDigits 10) tells_digits) text 11 d l)

pub few-watt_hours : (text : List ℕ) (wh : ℕ) → IsWattHours text wh → wh ≤ LARGEST_WATT_HOURS
few-watt_hours text wh x = omega (arith, x.value, few-digits text x.digits x.few)
