-- What follows of local days: each begins once, at midnight, and lasts 23, 24 or 25 hours.
use Rattle.std.specs.Prelude.{◌≡◌, ◌⊎◌, ℕ, ◌+◌, ◌*◌, ◌<◌, ◌≤◌}
use Rattle.pw_time.specs.declared.instant.TheConstants.{FIRST_SECOND, END_SECOND}
use Rattle.pw_time.specs.Summer.{local_second}
use Rattle.pw_time.specs.Days.{BeginsAt, IsBound}

-- no day begins at two seconds
abbrev pub DayBeginsOnce : Type 0
DayBeginsOnce = (day x y : ℕ) → IsBound x → IsBound y → BeginsAt day x → BeginsAt day y → x ≡ y

-- the first day, 2000-01-01, begins with the first instant, an hour after its midnight; and the day behind the last,
-- 2100-01-01, behind the last instant, an hour after its own
pub record AreFirstAndLast : Type 0 where
  pub first : BeginsAt 10_957 FIRST_SECOND
  pub last : BeginsAt 47_482 END_SECOND

-- each day from 2000-01-02 to 2099-12-31 begins where local clocks show midnight
abbrev pub DayBeginsAtMidnight : Type 0
DayBeginsAtMidnight =
    (day x : ℕ) → 10_957 < day → day ≤ 47_481 → IsBound x → BeginsAt day x → local_second x ≡ day * 86_400

-- so each from then to 2099-12-30 lasts 24 hours, or 23 or 25 where clocks change in it
abbrev pub DayHas23To25Hours : Type 0
DayHas23To25Hours = (day x y : ℕ) → 10_957 < day → day < 47_481 → IsBound x → IsBound y →
    BeginsAt day x → BeginsAt (day + 1) y →
    (y ≡ x + 82_800) ⊎ ((y ≡ x + 86_400) ⊎ (y ≡ x + 90_000))
