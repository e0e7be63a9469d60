-- Watt-hours as text, where no unit stands behind them.
-- (A format of this project: whole watt-hours in decimal digits.)
use Rattle.std.specs.Prelude.{◌≡◌, ℕ, ◌≤◌, List, length}
use Rattle.std.specs.Str.Parse.{AllDigits, digits_value}

-- 1 to 11 digits
pub record IsWattHours (text : List ℕ) (wh : ℕ) : Type 0 where
  pub some : 1 ≤ length text
  pub few : length text ≤ 11
  pub digits : AllDigits 10 text
  pub value : wh ≡ digits_value 10 text
