-- The day so many days behind 2000-01-01, and the text of an instant.
use Rattle.std.proofs.Common.{◌≡◌, ◌≤◌, ◌<◌, ◌+◌, ◌-◌, ◌*◌, ◌/◌, ◌%◌, ℕ, zero, suc, pos, inl, inr, refl, sym, ◌∙◌, subst, lit<, arith, add-one, lt-ltb, le-ltb, ◌≤ℤ◌, List, [], ◌∷◌, ◌++◌, Ok}
use Rattle.std.specs.Prelude.{codes}
use Rattle.std.proofs.lemmas.Int.{ints}
use Rattle.std.proofs.lemmas.Bool.{cases_lt}
use Rattle.std.specs.Str.{IsAscii, IsUtf8}
use Rattle.std.proofs.lemmas.Str.{IsUtf8-from_ascii}
use Rattle.std.proofs.lemmas.Str.Ascii.{IsAscii-cons, IsAscii-nil}
use Rattle.jiff.proofs.OnLiterals.{jiff_on_literals}
use Rattle.jiff_core.specs.Calendar.{IsBetween, IsCivilDate, days_in_month, days_from_civil}
use Rattle.jiff_core.proofs.CalendarLemmas.{days_in_month_bounds, days_from_civil-day_count}
use Rattle.jiff_core.proofs.DateLemmas.{days_from_civil-day, days_from_civil-next_month, days_from_civil-next_year}
use Rattle.pw_time.specs.declared.civil.CivilTime.{CivilTime}
use Rattle.pw_time.specs.declared.instant.TheConstants.{FIRST_SECOND, LAST_SECOND}
use Rattle.pw_time.specs.Instants.{IsInstant}
use Rattle.pw_time.specs.Civil.{civil_second}
use Rattle.pw_time.specs.Outcomes.{Exists, IsUtcOutcome}
use Rattle.pw_time.specs.Texts.{IsUtcText, two_digits}
use Rattle.pw_time.specs.Written.{CalendarDay, next_day, day_behind_2000, date_text, time_text, utc_text}
use Rattle.pw_time.proofs.CalendarFacts.{new_year_from_2100, same_second}

-- the calendar has the day, and counts it
pub record IsDayBehind (n : ℕ) (d : CalendarDay) : Type 0 where
  pub date : IsCivilDate (pos d.year) d.month d.day
  pub number : days_from_civil (pos d.year) d.month d.day ≡ pos (10_957 + n)

in_month : (n : ℕ) (d : CalendarDay)
    → d.day < days_in_month (pos d.year) d.month → IsDayBehind n d
    → IsDayBehind (n + 1) (record d { day = d.day + 1 })
in_month n d l b = record {
  date = (b.date.0, b.date.1, (omega arith, omega arith));
  number = (let one : 1 ≤ d.day = b.date.2.0 in
      omega (arith, ints, b.number, days_from_civil-day (pos d.year) d.month d.day (d.day + 1) one (omega arith)));
}

next_month : (n : ℕ) (d : CalendarDay) → days_in_month (pos d.year) d.month ≤ d.day → d.month < 12 → IsDayBehind n d
    → IsDayBehind (n + 1) (record { year = d.year; month = d.month + 1; day = 1 })
next_month n d l m b =
    let last : d.day ≡ days_in_month (pos d.year) d.month = omega (arith, l, b.date.2) in
    record {
      date = (
        b.date.0,
        (omega (arith, b.date.1), omega arith),
        (omega arith, omega (arith, days_in_month_bounds (pos d.year) (d.month + 1))),
      );
      number = omega (arith, ints, b.number, days_from_civil-next_month (pos d.year) d.month d.day b.date.1.0 last);
    }

last_of_december : (year month day : ℕ)
    → month ≡ 12 → days_in_month (pos year) month ≤ day → day ≤ days_in_month (pos year) month → day ≡ 31
last_of_december year month day e l h = let short = rw e at l in let long = rw e at h in omega (arith, short, long)

next_year : (n : ℕ) (d : CalendarDay)
    → n + 1 < 36_525 → days_in_month (pos d.year) d.month ≤ d.day → 12 ≤ d.month → IsDayBehind n d
    → IsDayBehind (n + 1) (record { year = d.year + 1; month = 1; day = 1 })
next_year n d few l m b =
    let december : d.month ≡ 12 = omega (arith, m, b.date.1) in
    let last : d.day ≡ 31 = last_of_december d.year d.month d.day december l b.date.2.1 in
    let here : days_from_civil (pos d.year) 12 31 ≡ pos (10_957 + n) = rw (december, last) at b.number in
    let behind = days_from_civil-next_year (pos d.year) (pos (d.year + 1))
    (omega (arith, ints)) (omega (arith, ints)) in
    let tie = days_from_civil-day_count (pos (d.year + 1)) 1 1 in
    let early : d.year + 1 < 2100 = elim (cases_lt (d.year + 1) 2100) [
      | inl early ↦ early
      | inr late ↦ absurd (omega (arith, ints, new_year_from_2100 (d.year + 1) late, behind, here, tie, few))
    ] in
    record {
      date = (
        (omega (arith, ints), omega (arith, ints, early)),
        (omega arith, omega arith),
        (omega arith, omega arith),
      );
      number = omega (arith, ints, here, behind);
    }

behind_next : (n : ℕ) (d : CalendarDay) → n + 1 < 36_525 → IsDayBehind n d → IsDayBehind (n + 1) (next_day d)
behind_next n d few b =
    elim (cases_lt d.day (days_in_month (pos d.year) d.month)) [
      | inl within ↦ rw (lt-ltb d.day (days_in_month (pos d.year) d.month) within) (in_month n d within b)
      | inr last ↦ rw (le-ltb d.day (days_in_month (pos d.year) d.month) last) (elim (cases_lt d.month 12) [
        | inl more ↦ rw (lt-ltb d.month 12 more) (next_month n d last more b)
        | inr december ↦ rw (le-ltb d.month 12 december) (next_year n d few last december b)
      ])
    ]

first_day : days_from_civil (pos 2000) 1 1 ≡ pos 10_957
unfolding jiff_on_literals
first_day = refl

pub day_is_behind : (n : ℕ) → n < 36_525 → IsDayBehind n (day_behind_2000 n)
unfolding day_behind_2000
day_is_behind zero few = record {
  date = ((omega (arith, ints), omega (arith, ints)), (omega arith, omega arith), (omega arith, omega arith));
  number = first_day;
}
day_is_behind (suc n) few =
    subst (λ (k : ℕ). IsDayBehind k (next_day (day_behind_2000 n))) (add-one n)
    (behind_next n (day_behind_2000 n) (omega arith) (day_is_behind n (omega arith)))

-- what a clock in UTC shows at a second of a day
civil_at : CalendarDay → ℕ → CivilTime
civil_at d second = record {
  year = d.year;
  month = d.month;
  day = d.day;
  hour = second / 3600;
  minute = second % 3600 / 60;
  second = second % 60;
}

of_day : (n t : ℕ) (d : CalendarDay)
    → IsInstant t → n < 36_525 → IsDayBehind n d → t ≡ (10_957 + n) * 86_400 + t % 86_400
    → IsUtcOutcome (date_text d ++ (84 ∷ time_text (t % 86_400)) ++ (90 ∷ [])) (Ok t)
unfolding civil_at
of_day n t d instant few b e =
    let c : CivilTime = civil_at d (t % 86_400) in
    let late : pos d.year ≤ℤ pos 9999 = b.date.0.1 in
    let month : IsBetween (pos 1) (pos 12) (pos c.month) = (omega (arith, ints, b.date.1), omega (arith, ints, b.date.1)) in
    let day : IsBetween (pos 1) (pos (days_in_month (pos c.year) c.month)) (pos c.day) =
    (omega (arith, ints, b.date.2), omega (arith, ints, b.date.2)) in
    let there : Exists c = ((b.date.0, month, day), (omega arith, omega arith, omega arith)) in
    let short = days_in_month_bounds (pos d.year) d.month in
    let shown : pos t ≡ civil_second c = omega (arith, ints, e, b.number) in (
      c,
      record {
        parts = record {
          year = omega (arith, ints, late);
          month = omega (arith, b.date.1);
          day = omega (arith, b.date.2, short);
          hour = omega arith;
          minute = omega arith;
          second = omega arith;
        };
        bytes = refl;
      },
      (there, (omega (arith, ints, shown), λ other shows. omega (arith, ints, shown, shows)), instant),
    )

pub written_text : (t : ℕ) → IsInstant t → IsUtcOutcome (utc_text t) (Ok t)
written_text t instant =
    let n = (t - FIRST_SECOND) / 86_400 in
    of_day n t (day_behind_2000 n) instant (omega (arith, instant))
    (day_is_behind n (omega (arith, instant))) (omega (arith, instant))

-- the first and the last second that are instants
first_shown : CivilTime
first_shown = record { year = 2000; month = 1; day = 1; hour = 0; minute = 0; second = 0 }

last_shown : CivilTime
last_shown = record { year = 2099; month = 12; day = 31; hour = 23; minute = 59; second = 59 }

last_day : days_from_civil (pos 2099) 12 31 ≡ pos 47_481
unfolding jiff_on_literals
last_day = refl

pub first_text : IsUtcOutcome (codes "2000-01-01T00:00:00Z") (Ok FIRST_SECOND)
unfolding first_shown
first_text = (
  first_shown,
  record {
    parts = record { year = lit< tt; month = lit< tt; day = lit< tt; hour = lit< tt; minute = lit< tt; second = lit< tt };
    bytes = refl;
  },
  (
    (((omega (arith, ints), omega (arith, ints)), (omega (arith, ints), omega (arith, ints)), (omega (arith, ints), omega (arith, ints))), (omega arith, omega arith, omega arith)),
    (omega (arith, ints, first_day), λ other shows. omega (arith, ints, first_day, shows)),
    (omega arith, omega arith),
  ),
)

pub last_text : IsUtcOutcome (codes "2099-12-31T23:59:59Z") (Ok LAST_SECOND)
unfolding last_shown
last_text = (
  last_shown,
  record {
    parts = record { year = lit< tt; month = lit< tt; day = lit< tt; hour = lit< tt; minute = lit< tt; second = lit< tt };
    bytes = refl;
  },
  (
    (((omega (arith, ints), omega (arith, ints)), (omega (arith, ints), omega (arith, ints)), (omega (arith, ints), omega (arith, ints))), (omega arith, omega arith, omega arith)),
    (omega (arith, ints, last_day), λ other shows. omega (arith, ints, last_day, shows)),
    (omega arith, omega arith),
  ),
)

-- an instant has one text
pub one_written : (t : ℕ) (text other : List ℕ) → IsUtcOutcome text (Ok t) → IsUtcOutcome other (Ok t) → text ≡ other
one_written t text other a b =
    let second : civil_second a.0 ≡ civil_second b.0 = sym a.2.1.0 ∙ b.2.1.0 in
    let same = same_second a.0 b.0 a.2.0 b.2.0 second in
    let told = subst (λ (civil : CivilTime). IsUtcText text civil) same a.1 in
    told.bytes ∙ sym b.1.bytes

pub is_written : (t : ℕ) (text : List ℕ) → IsUtcOutcome text (Ok t) → text ≡ utc_text t
is_written t text told = one_written t text (utc_text t) told (written_text t told.2.2)

-- it is ASCII
record Low (text : List ℕ) : Type 0 where
  ascii : IsAscii text

low : (byte : ℕ) (rest : List ℕ) → byte < 128 → Low rest → Low (byte ∷ rest)
low byte rest h r = record { ascii = IsAscii-cons byte rest h r.ascii }

low_digits : (n : ℕ) (rest : List ℕ) → n < 100 → Low rest → Low (two_digits n ++ rest)
low_digits n rest few r =
    low (48 + n / 10) ((48 + n % 10) ∷ rest) (omega arith) (low (48 + n % 10) rest (omega arith) r)

low_text : (c : CivilTime) (text : List ℕ) → IsUtcText text c → Low text
low_text c text told =
    let p = told.parts in
    let within : c.year % 100 < 100 = omega arith in
    let century : c.year / 100 < 100 = omega (arith, p.year) in
    let second = low_digits c.second _ p.second (low 90 _ (lit< tt) (record { ascii = IsAscii-nil })) in
    let minute = low_digits c.minute _ p.minute (low 58 _ (lit< tt) second) in
    let hour = low_digits c.hour _ p.hour (low 58 _ (lit< tt) minute) in
    let day = low_digits c.day _ p.day (low 84 _ (lit< tt) hour) in
    let month = low_digits c.month _ p.month (low 45 _ (lit< tt) day) in
    let short = low_digits (c.year % 100) _ within (low 45 _ (lit< tt) month) in
    let P : List ℕ → Type 0 = λ t. Low t in
    subst P (sym told.bytes) (low_digits (c.year / 100) _ century short)

pub written_is_utf8 : (t : ℕ) (text : List ℕ) → IsUtcOutcome text (Ok t) → IsUtf8 text
written_is_utf8 t text told = IsUtf8-from_ascii text (low_text told.0 text told.1).ascii
