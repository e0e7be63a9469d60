-- The months of local calendars, as texts, and their days.
-- (ISO 8601: a month is `YYYY-MM`, a day `YYYY-MM-DD`. To which day an instant belongs: `Days` in pw_time.)
use Rattle.std.specs.Prelude.{◌≡◌, ◌↔◌, ℕ, ◌+◌, ◌/◌, ◌%◌, ◌<◌, ◌≤◌, List, ◌++◌, codes, length, slice_index}
use Rattle.pw_time.specs.Days.{BeginsAt, IsBound, IsLocalDate, IsLocalMonth, IsMonth, day_behind_month, day_number}
use Rattle.pw_time.specs.Instants.{IsInstant}
use Rattle.pw_time.specs.Texts.{two_digits}
use Rattle.pw_report.specs.declared.months.Month.{Month}

-- one of the months 2000-01 to 2099-12
abbrev pub IsThere : Month → Type 0
IsThere m = IsLocalMonth m.year m.month

-- ---- as text
-- `YYYY-MM`
abbrev pub month_text : Month → List ℕ
month_text m = two_digits (m.year / 100) ++ two_digits (m.year % 100) ++ codes "-" ++ two_digits m.month

-- `YYYY-MM-DD`
abbrev pub date_text : Month → ℕ → List ℕ
date_text m day = month_text m ++ codes "-" ++ two_digits day

-- the text of a month that is there
pub record IsMonthText (text : List ℕ) (m : Month) : Type 0 where
  pub there : IsThere m
  pub bytes : text ≡ month_text m

-- ---- its seconds
-- the instants of the month are those from the first on, up to and without a later second
pub record IsSpan (m : Month) (from until : ℕ) : Type 0 where
  pub first : IsInstant from
  pub later : from < until
  pub month : IsMonth m.year m.month from until

-- where each of its days begins, one behind another, and where the last one ends
pub record AreDays (m : Month) (begins : List ℕ) (end : ℕ) : Type 0 where
  -- so many as there are dates of the month
  pub dates : (day : ℕ) → IsLocalDate m.year m.month day ↔ ((1 ≤ day) × (day ≤ length begins))
  pub first : (i : ℕ) → i < length begins → IsInstant (slice_index begins i)
  pub begin : (i : ℕ) → i < length begins → BeginsAt (day_number m.year m.month (i + 1)) (slice_index begins i)
  pub last : BeginsAt (day_behind_month m.year m.month) end
  pub bound : IsBound end
