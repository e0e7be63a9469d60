-- Central European time: the rule CET-1CEST,M3.5.0,M10.5.0/3 of EU directive 2000/84/EC.
use Rattle.std.specs.Prelude.{ℕ, zero, suc, ◌+◌, ◌-◌, ◌*◌, ◌/◌, ◌%◌, pos, Bool, ◌&&◌, nat_le, nat_lt, if◌then◌else◌, List, [], ◌∷◌, unsigned_abs}
use Rattle.std.specs.List.{list_any}
use Rattle.jiff_core.specs.Calendar.{days_from_civil, weekday_number}

-- the day number of the 31st of a month, in a year from 1970 on
abbrev pub last_day : ℕ → ℕ → ℕ
last_day year month = unsigned_abs (days_from_civil (pos year) month 31)

-- the day number of the last Sunday of such a month: as many days before the 31st
-- as have passed since Sunday (weekday 0 is Monday, 6 Sunday)
abbrev pub last_sunday : ℕ → ℕ → ℕ
last_sunday year month =
    let last = last_day year month in last - (weekday_number (pos last) + 1) % 7

-- 01:00:00Z of that Sunday
abbrev pub change_in : ℕ → ℕ → ℕ
change_in year month = last_sunday year month * 86_400 + 3600

-- summer time begins in March
unfoldable pub summer_start : ℕ → ℕ
summer_start year = change_in year 3

-- and ends in October
unfoldable pub summer_end : ℕ → ℕ
summer_end year = change_in year 10

-- the second lies in the summer time of the year
abbrev pub is_summer_of : ℕ → ℕ → Bool
is_summer_of t year = nat_le (summer_start year) t && nat_lt t (summer_end year)

-- n years, from a year on
abbrev pub years_from : ℕ → ℕ → List ℕ
years_from year zero = []
years_from year (suc n) = year ∷ years_from (year + 1) n

-- the second lies in the summer time of one of the years 2000 to 2099
unfoldable pub is_summer : ℕ → Bool
is_summer t = list_any (is_summer_of t) (years_from 2000 100)

-- how many seconds local clocks are ahead of UTC
abbrev pub civil_offset : ℕ → ℕ
civil_offset t = if is_summer t then 7200 else 3600

-- the second that local clocks show
abbrev pub local_second : ℕ → ℕ
local_second t = t + civil_offset t

-- the weekday that local calendars show, 0 for Monday
abbrev pub local_weekday : ℕ → ℕ
local_weekday t = weekday_number (pos (local_second t / 86_400))

-- the hour that local clocks show
abbrev pub local_hour : ℕ → ℕ
local_hour t = local_second t % 86_400 / 3600

-- both changes of each of n years, from a year on
abbrev pub changes_from : ℕ → ℕ → List ℕ
changes_from year zero = []
changes_from year (suc n) = summer_start year ∷ summer_end year ∷ changes_from (year + 1) n

-- the changes of the years 2000 to 2099
unfoldable pub central_changes : List ℕ
central_changes = changes_from 2000 100
