-- Cents as text.
-- (A format of this project: whole cents in decimal digits.)
use Rattle.std.specs.Prelude.{◌≡◌, ℕ, ◌≤◌, List, length}
use Rattle.std.specs.Str.Parse.{AllDigits, digits_value}
use Rattle.pw_model.specs.Office.{most_cents}

-- 1 to 9 digits of a value from 1 to 100,000,000
pub record IsCents (text : List ℕ) (cents : ℕ) : Type 0 where
  pub some : 1 ≤ length text
  pub few : length text ≤ 9
  pub digits : AllDigits 10 text
  pub value : cents ≡ digits_value 10 text
  pub least : 1 ≤ cents
  pub most : cents ≤ most_cents
