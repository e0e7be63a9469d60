-- The day numbers of the years from 2000 to 2099.
use Rattle.std.proofs.Common.{◌≡◌, ◌≤◌, ◌<◌, ◌+◌, ◌-◌, ◌*◌, ◌%◌, ◌∙◌, inl, inr, ℕ, pos, ◌≤ℤ◌, refl, arith, ap}
use Rattle.std.proofs.lemmas.Int.{ints, by_lt_z}
use Rattle.std.proofs.lemmas.Bool.{cases_lt}
use Rattle.jiff.proofs.OnLiterals.{jiff_on_literals}
use Rattle.jiff_core.specs.Calendar.{IsDate, IsCivilDate, day_count, days_from_civil, weekday_number}
use Rattle.jiff_core.specs.declared.civil.date.Date.{Date}
use Rattle.jiff_core.specs.Date.{epoch_day}
use Rattle.jiff_core.proofs.CalendarLemmas.{days_from_civil-day_count, day_count-lt_year, day_count-later_year, day_count-day_of_year, day_of_year-late, day_count-epoch, weekday_number_bound}
use Rattle.jiff_core.proofs.DateLemmas.{civil, epoch_day_injective, days_from_civil-day, weekday_number-day}
use Rattle.pw_time.specs.declared.civil.CivilTime.{CivilTime}
use Rattle.pw_time.specs.declared.instant.TheConstants.{FIRST_SECOND, LAST_SECOND}
use Rattle.pw_time.specs.Civil.{HasDate, civil_second}
use Rattle.pw_time.specs.Outcomes.{Exists}
use Rattle.pw_time.specs.Summer.{last_day, last_sunday}
use Rattle.pw_time.specs.Texts.{IsShortYear}
use Rattle.pw_time.proofs.UniqueTexts.{one_civil_time}

day_count-before_2000 : day_count (pos 1999) 12 31 ≡ 4_382_909
unfolding jiff_on_literals
day_count-before_2000 = refl

day_count-at_2100 : day_count (pos 2100) 1 1 ≡ 4_419_435
unfolding jiff_on_literals
day_count-at_2100 = refl

pub civil_date : (y m d : ℕ) → IsDate (pos y) (pos m) (pos d) → IsCivilDate (pos y) m d
civil_date y m d h = (h.0, omega (arith, ints), omega (arith, ints))

day_count-before_1970 : day_count (pos 1969) 12 31 ≡ 4_371_952
unfolding jiff_on_literals
day_count-before_1970 = refl

last_of_1969 : IsCivilDate (pos 1969) 12 31
last_of_1969 = ((omega (arith, ints), omega (arith, ints)), (omega arith, omega arith), (omega arith, omega arith))

last_of_1999 : IsCivilDate (pos 1999) 12 31
last_of_1999 = ((omega (arith, ints), omega (arith, ints)), (omega arith, omega arith), (omega arith, omega arith))

-- a date of the years 2000 to 2099
pub short_year_days : (y m d : ℕ) → IsShortYear y → IsDate (pos y) (pos m) (pos d)
    → (pos 10_957 ≤ℤ days_from_civil (pos y) m d) × (days_from_civil (pos y) m d ≤ℤ pos 47_481)
short_year_days y m d short date =
    let civil = civil_date y m d date in
    let one : 1 ≤ d = omega (arith, ints) in
    let early : day_count (pos 1999) 12 31 < day_count (pos y) m d = day_count-lt_year (pos 1999) 12 31 (pos y) m d last_of_1999 one (omega (arith, ints)) in
    let late : day_count (pos y) m d < day_count (pos 2100) 1 1 = day_count-lt_year (pos y) m d (pos 2100) 1 1 civil (omega arith) (omega (arith, ints)) in
    let tie = days_from_civil-day_count (pos y) m d in
    (omega (arith, ints, day_count-before_2000, day_count-at_2100), omega (arith, ints, day_count-before_2000, day_count-at_2100))

-- and the seconds of its day
pub short_year_seconds : (c : CivilTime) → IsShortYear c.year → Exists c
    → (pos FIRST_SECOND ≤ℤ civil_second c) × (civil_second c ≤ℤ pos LAST_SECOND)
short_year_seconds c short there =
    let days = short_year_days c.year c.month c.day short there.0 in
    (omega (arith, ints, days, there.1), omega (arith, ints, days, there.1))

-- no date before 1970 has a day number from 0 on
pub year_from_1970 : (d : Date) (k : ℕ) → epoch_day d ≡ pos k → pos 1970 ≤ℤ d.year
year_from_1970 d k e =
    by_lt_z d.year (pos 1970)
    (λ early.
    let below = day_count-lt_year d.year d.month d.day (pos 1970) 1 1 (civil d) (omega arith) early in
    let tie = days_from_civil-day_count d.year d.month d.day in
    absurd (omega (arith, ints, day_count-epoch, below, tie, e)))
    (λ h. h)

-- the last day of a month, and its last Sunday
pub day_from_1970 : (year month day : ℕ) → 1970 ≤ year → 1 ≤ day → pos 0 ≤ℤ days_from_civil (pos year) month day
day_from_1970 year month day late one =
    let above = day_count-lt_year (pos 1969) 12 31 (pos year) month day last_of_1969 one (omega (arith, ints)) in
    let tie = days_from_civil-day_count (pos year) month day in
    omega (arith, ints, day_count-before_1970, above, tie)

day_count-at_2000 : day_count (pos 2000) 1 1 ≡ 4_382_910
unfolding jiff_on_literals
day_count-at_2000 = refl

pub october_before_2000 : (year : ℕ) → year < 2000 → days_from_civil (pos year) 10 31 ≤ℤ pos 10_956
october_before_2000 year early =
    let date : IsCivilDate (pos year) 10 31 = ((omega (arith, ints), omega (arith, ints)), (omega arith, omega arith), (omega arith, omega arith)) in
    let below = day_count-lt_year (pos year) 10 31 (pos 2000) 1 1 date (omega arith) (omega (arith, ints)) in
    let tie = days_from_civil-day_count (pos year) 10 31 in
    omega (arith, ints, day_count-at_2000, below, tie)

pub new_year_from_2100 : (year : ℕ) → 2100 ≤ year → 4_419_435 ≤ day_count (pos year) 1 1
new_year_from_2100 year late =
    elim (cases_lt 2100 year) [
      | inl later ↦
          let above = day_count-later_year (pos 2100) (pos year) (omega (arith, ints)) (omega (arith, ints)) in
          omega (arith, above, day_count-at_2100)
      | inr here ↦
          let same : year ≡ 2100 = omega (arith, late, here) in
          rw (same, day_count-at_2100) (omega arith)
    ]

pub march_from_2100 : (year : ℕ) → 2100 ≤ year → pos 47_571 ≤ℤ days_from_civil (pos year) 3 31
march_from_2100 year late =
    let new_year = new_year_from_2100 year late in
    let behind = day_count-day_of_year (pos year) 3 31 (omega arith) in
    let march = day_of_year-late (pos year) 3 31 (omega arith) in
    let tie = days_from_civil-day_count (pos year) 3 31 in
    omega (arith, ints, new_year, behind, march, tie)

-- existing dates and times that are the same second are the same
same_parts : (h m s k n t : ℕ) → h < 24 → m < 60 → s < 60 → k < 24 → n < 60 → t < 60
    → h * 3600 + m * 60 + s ≡ k * 3600 + n * 60 + t → (h ≡ k) × (m ≡ n) × (s ≡ t)
same_parts h m s k n t a b c d e f sum = (omega arith, omega arith, omega arith)

date_of : (c : CivilTime) → HasDate c → Date
date_of c date =
    let civil = civil_date c.year c.month c.day date in
    record { year = pos c.year; month = c.month; day = c.day; year_in = civil.0; month_in = civil.1; day_in = civil.2 }

pub same_second : (c d : CivilTime) → Exists c → Exists d → civil_second c ≡ civil_second d → c ≡ d
unfolding date_of
same_second c d p q e =
    let x = days_from_civil (pos c.year) c.month c.day in
    let y = days_from_civil (pos d.year) d.month d.day in
    let days : x ≡ y = omega (arith, ints, p.1, q.1, e) in
    let sum : c.hour * 3600 + c.minute * 60 + c.second ≡ d.hour * 3600 + d.minute * 60 + d.second = omega (arith, ints, p.1, q.1, e) in
    let time = same_parts c.hour c.minute c.second d.hour d.minute d.second p.1.0 p.1.1 p.1.2 q.1.0 q.1.1 q.1.2 sum in
    let date = epoch_day_injective (date_of c p.0) (date_of d q.0) days in
    one_civil_time c d (omega (arith, ints, date.0)) date.1 date.2 time.0 time.1 time.2

-- a week back from Sunday: the days since, and the weekday
days_since : (w : ℕ) → w < 7 → ((w + 1) % 7 < 7) × ((x : ℕ) → x < 7 → w ≡ (x + (w + 1) % 7) % 7 → x ≡ 6)
days_since w h = (omega arith, λ x y e. omega (arith, h, y, e))

sunday_back : (year month w k : ℕ) → 1970 ≤ year → pos (last_day year month) ≡ days_from_civil (pos year) month 31
    → w ≡ weekday_number (days_from_civil (pos year) month 31) → k ≡ (w + 1) % 7
    → (day : ℕ) × (25 ≤ day) × (day ≤ 31)
    × (pos (last_day year month - k) ≡ days_from_civil (pos year) month day)
    × (weekday_number (days_from_civil (pos year) month day) ≡ 6)
sunday_back year month w k late whole is back =
    let bound : w < 7 = omega (arith, is, weekday_number_bound (days_from_civil (pos year) month 31)) in
    let since = days_since w bound in
    let week : k < 7 = omega (arith, back, since.0) in
    let one : 1 ≤ 31 - k = omega (arith, week) in
    let low : 31 - k ≤ 31 = omega arith in
    let left : 31 - (31 - k) ≡ k = omega (arith, week) in
    let distance = days_from_civil-day (pos year) month (31 - k) 31 one (omega arith) in
    let from = day_from_1970 year month (31 - k) late one in
    let weekday = weekday_number-day (pos year) month (31 - k) 31 one low in
    let small = weekday_number_bound (days_from_civil (pos year) month (31 - k)) in (
      31 - k,
      omega (arith, week),
      low,
      omega (arith, ints, whole, distance, from, week),
      since.1 (weekday_number (days_from_civil (pos year) month (31 - k))) small (is ∙ weekday ∙ ap (λ n. (weekday_number (days_from_civil (pos year) month (31 - k)) + n) % 7) (left ∙ back)),
    )

-- counted back from the 31st, the last Sunday is a Sunday
pub last_sunday_is : (year month : ℕ) → 1970 ≤ year
    → (day : ℕ) × (25 ≤ day) × (day ≤ 31)
    × (pos (last_sunday year month) ≡ days_from_civil (pos year) month day)
    × (weekday_number (days_from_civil (pos year) month day) ≡ 6)
last_sunday_is year month late =
    let from = day_from_1970 year month 31 late (omega arith) in
    let whole : pos (last_day year month) ≡ days_from_civil (pos year) month 31 = omega (arith, ints, from) in
    sunday_back year month (weekday_number (pos (last_day year month))) _ late whole (ap weekday_number whole) refl
