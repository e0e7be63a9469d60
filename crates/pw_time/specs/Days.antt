-- Where the days and the months of local calendars begin.
-- (Gregorian calendar, ISO 8601; local calendars show Central European time, EU directive 2000/84/EC. To which day the
-- first and the last hour of all instants belong is this project's profile.)
use Rattle.std.specs.Prelude.{ℕ, ◌+◌, ◌/◌, ◌≤◌, ◌↔◌, cond, nat_lt, pos, unsigned_abs}
use Rattle.jiff_core.specs.Calendar.{IsDate, days_from_civil}
use Rattle.pw_time.specs.declared.instant.TheConstants.{FIRST_SECOND, END_SECOND}
use Rattle.pw_time.specs.Instants.{IsInstant}
use Rattle.pw_time.specs.Summer.{local_second}
use Rattle.pw_time.specs.Texts.{IsShortYear}

-- a date of the years 2000 to 2099
abbrev pub IsLocalDate : ℕ → ℕ → ℕ → Type 0
IsLocalDate year month day = IsShortYear year × IsDate (pos year) (pos month) (pos day)

-- a month of these years
abbrev pub IsLocalMonth : ℕ → ℕ → Type 0
IsLocalMonth year month = IsShortYear year × (1 ≤ month) × (month ≤ 12)

-- the number of a date's day, counted from 1970-01-01
abbrev pub day_number : ℕ → ℕ → ℕ → ℕ
day_number year month day = unsigned_abs (days_from_civil (pos year) month day)

-- the day that local calendars show at a second
abbrev pub local_day : ℕ → ℕ
local_day t = local_second t / 86_400

-- the day of which an instant is one: the day that local calendars show; in the last hour of all instants, when they
-- show 2100-01-01, it is still 2099-12-31, day 47,481
abbrev pub day_of : ℕ → ℕ
day_of t = cond (nat_lt (local_day t) 47_482) (local_day t) 47_481

-- a day begins at a second: the instants from it on are those of the day and of later ones
abbrev pub BeginsAt : ℕ → ℕ → Type 0
BeginsAt day second = (t : ℕ) → IsInstant t → (second ≤ t) ↔ (day ≤ day_of t)

-- the first day behind a month
abbrev pub day_behind_month : ℕ → ℕ → ℕ
day_behind_month year month = cond (nat_lt month 12) (day_number year (month + 1) 1) (day_number (year + 1) 1 1)

-- an instant, or the second behind the last
abbrev pub IsBound : ℕ → Type 0
IsBound second = (FIRST_SECOND ≤ second) × (second ≤ END_SECOND)

-- the instants of a month are those from a second on, up to and without another
pub record IsMonth (year month begin end : ℕ) : Type 0 where
  pub begins : BeginsAt (day_number year month 1) begin
  pub ends : BeginsAt (day_behind_month year month) end
  pub bound : IsBound end
