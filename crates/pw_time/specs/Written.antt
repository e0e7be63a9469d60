-- The text of an instant in UTC.
use Rattle.std.specs.Prelude.{ℕ, zero, suc, ◌+◌, ◌-◌, ◌/◌, ◌%◌, ◌∷◌, [], ◌++◌, List, pos, nat_lt, cond}
use Rattle.jiff_core.specs.Calendar.{days_in_month}
use Rattle.pw_time.specs.Texts.{two_digits, separated}
use Rattle.pw_time.specs.declared.instant.TheConstants.{FIRST_SECOND}

pub record CalendarDay : Type 0 where
  pub year : ℕ
  pub month : ℕ
  pub day : ℕ

-- the day behind a day: in its month, or the first of the next month, or the first of the next year
abbrev pub next_day : CalendarDay → CalendarDay
next_day d =
    cond (nat_lt d.day (days_in_month (pos d.year) d.month)) (record d { day = d.day + 1 })
    (cond (nat_lt d.month 12) (record { year = d.year; month = d.month + 1; day = 1 })
    (record { year = d.year + 1; month = 1; day = 1 }))

-- the day so many days behind 2000-01-01
unfoldable pub day_behind_2000 : ℕ → CalendarDay
day_behind_2000 zero = record { year = 2000; month = 1; day = 1 }
day_behind_2000 (suc n) = next_day (day_behind_2000 n)

-- `YYYY-MM-DD`
abbrev pub date_text : CalendarDay → List ℕ
date_text d = two_digits (d.year / 100) ++ separated 45 (d.year % 100) d.month d.day

-- `hh:mm:ss` of a second of the day
abbrev pub time_text : ℕ → List ℕ
time_text second = separated 58 (second / 3600) (second % 3600 / 60) (second % 60)

-- `YYYY-MM-DDThh:mm:ssZ`
abbrev pub utc_text : ℕ → List ℕ
utc_text instant =
    date_text (day_behind_2000 ((instant - FIRST_SECOND) / 86_400)) ++ (84 ∷ time_text (instant % 86_400)) ++ (90 ∷ [])
