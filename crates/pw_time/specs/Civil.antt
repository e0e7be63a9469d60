-- Dates and times of day as a clock shows them.
use Rattle.std.specs.Prelude.{ℤ, pos, ◌+◌, ◌*◌, ◌<◌, ◌+ℤ◌, ◌*ℤ◌}
use Rattle.jiff_core.specs.Calendar.{IsDate, days_from_civil}
use Rattle.pw_time.specs.declared.civil.CivilTime.{CivilTime}

-- the Gregorian calendar, carried back before its adoption, has the date; the year 0000 is a leap year
abbrev pub HasDate : CivilTime → Type 0
HasDate c = IsDate (pos c.year) (pos c.month) (pos c.day)

-- a day of 24 hours has the time; second 60 isn't one
abbrev pub HasTime : CivilTime → Type 0
HasTime c = (c.hour < 24) × (c.minute < 60) × (c.second < 60)

-- how many seconds the clock has shown since it showed 1970-01-01T00:00:00
abbrev pub civil_second : CivilTime → ℤ
civil_second c =
    days_from_civil (pos c.year) c.month c.day *ℤ pos 86_400
    +ℤ pos (c.hour * 3600 + c.minute * 60 + c.second)
