-- The days of a month, one behind another.
use Rattle.std.proofs.Common.{◌≡◌, ◌≤◌, ◌<◌, ◌+◌, ◌-◌, ◌++◌, inl, inr, ℕ, zero, suc, List, [], ◌∷◌, pos, lt-ltb, le-ltb, refl, arith, sym, subst, ◌∙◌, length, length-append}
use Rattle.std.specs.Prelude.{slice_index}
use Rattle.std.proofs.lemmas.Bool.{cases_lt}
use Rattle.std.proofs.lemmas.Int.{ints}
use Rattle.std.proofs.lemmas.List.{get_or_default, get_or_past}
use Rattle.jiff_core.specs.Calendar.{day_count}
use Rattle.jiff_core.proofs.CalendarLemmas.{day_count-day, day_count-lt_month, day_count-lt_year, days_from_civil-day_count, days_in_month_bounds}
use Rattle.pw_time.specs.declared.instant.TheConstants.{FIRST_SECOND}
use Rattle.pw_time.specs.Days.{BeginsAt, IsBound, IsLocalDate, IsLocalMonth, IsMonth, day_behind_month, day_number, day_of, local_day}
use Rattle.pw_time.specs.Instants.{IsInstant}
use Rattle.pw_time.proofs.CalendarFacts.{civil_date, day_from_1970, short_year_days}
use Rattle.pw_time.proofs.DayFacts.{at_midnight, begins_once, first_and_last, first_date, offset_is}
use Rattle.pw_bills.specs.Stretches.{AreStretches, end_of}
use Rattle.pw_report.specs.declared.months.Month.{Month}
use Rattle.pw_report.specs.Months.{AreDays, IsSpan, IsThere}

-- ---- the numbers of days
number_is : (y m d : ℕ) → 1970 ≤ y → 1 ≤ d → day_number y m d + 4_371_953 ≡ day_count (pos y) m d
number_is y m d a b =
    let z = day_from_1970 y m d a b in
    let e = days_from_civil-day_count (pos y) m d in
    omega (arith, ints, z, e)

next_number : (y m d : ℕ) → 1970 ≤ y → 1 ≤ d → day_number y m d + 1 ≡ day_number y m (d + 1)
next_number y m d a b =
    let one = number_is y m d a b in
    let two = number_is y m (d + 1) a (omega (arith, b)) in
    let e = day_count-day (pos y) m d (d + 1) b (omega (arith, b)) in
    omega (arith, one, two, e)

from_first : (y m d : ℕ) → IsLocalDate y m d → 10_957 ≤ day_number y m d
from_first y m d h = let e = (short_year_days y m d h.0 h.1).0 in omega (arith, ints, e)

behind_number : (y m d : ℕ) → IsLocalDate y m d → day_number y m d < day_behind_month y m
behind_number y m d h =
    let late : 1970 ≤ y = omega (arith, h.0.0) in
    let some : 1 ≤ d = omega (arith, ints, h.1.2) in
    let one = number_is y m d late some in
    elim (cases_lt m 12) [
      | inl l ↦ (
          let two = number_is y (m + 1) 1 late (omega arith) in
          let e = day_count-lt_month (pos y) m d (m + 1) 1 (civil_date y m d h.1) (omega arith) (omega arith) in
          rw (lt-ltb m 12 l) (omega (arith, one, two, e)))
      | inr l ↦ (
          let two = number_is (y + 1) 1 1 (omega (arith, late)) (omega arith) in
          let e = day_count-lt_year (pos y) m d (pos (y + 1)) 1 1 (civil_date y m d h.1) (omega arith) (omega (arith, ints)) in
          rw (le-ltb m 12 l) (omega (arith, one, two, e)))
    ]

-- ---- which day it is where a day begins
day_known : (t d : ℕ) → local_day t ≡ d → d ≤ 47_481 → day_of t ≡ d
day_known t d e l = rw (e, lt-ltb d 47_482 (omega (arith, l))) refl

day_most : (t : ℕ) → day_of t ≤ 47_481
day_most t =
    elim (cases_lt (local_day t) 47_482) [
      | inl l ↦ rw (lt-ltb (local_day t) 47_482 l) (omega (arith, l))
      | inr l ↦ rw (le-ltb (local_day t) 47_482 l) (omega arith)
    ]

of_first : local_day FIRST_SECOND ≡ 10_957
of_first =
    elim (offset_is FIRST_SECOND) [
      | inl e ↦ omega (arith, e)
      | inr e ↦ omega (arith, e)
    ]

day_here : (d x : ℕ) → 10_957 ≤ d → IsInstant x → BeginsAt d x → day_of x ≡ d
day_here d x low i b =
    let at : d ≤ day_of x = (b x i).0 (omega arith) in
    let most = day_most x in
    let high : d ≤ 47_481 = omega (arith, at, most) in
    let bound : IsBound x = (i.0, omega (arith, i.1)) in
    elim (cases_lt 10_957 d) [
      | inl l ↦ (
          let e = at_midnight d x l high bound b in
          day_known x d (omega (arith, e)) high)
      | inr l ↦ (
          let is : d ≡ 10_957 = omega (arith, low, l) in
          let P : ℕ → Type 0 = λ n. BeginsAt n x in
          let same : x ≡ FIRST_SECOND = begins_once 10_957 x FIRST_SECOND bound (omega arith, omega arith) (subst P is b) first_and_last.first in
          let Q : ℕ → Type 0 = λ n. local_day n ≡ 10_957 in
          day_known x 10_957 (subst Q (sym same) of_first) (omega arith) ∙ sym is)
    ]

-- so a later day begins later
pub rises : (d e x y : ℕ) → 10_957 ≤ d → d < e → IsInstant x → BeginsAt d x → BeginsAt e y → x < y
rises d e x y low l i a b =
    elim (cases_lt x y) [
      | inl k ↦ k
      | inr k ↦ (
          let late : e ≤ day_of x = (b x i).0 k in
          let here = day_here d x low i a in
          absurd (omega (arith, l, late, here)))
    ]

-- ---- a month
pub month_later : (y m x u : ℕ) → IsLocalMonth y m → IsInstant x → IsMonth y m x u → x < u
month_later y m x u h i is =
    let first = first_date y m h in
    rises (day_number y m 1) (day_behind_month y m) x u (from_first y m 1 first) (behind_number y m 1 first) i is.begins is.ends

-- a month has each day before one that it has
earlier_date : (y m d e : ℕ) → 1 ≤ d → d ≤ e → IsLocalDate y m e → IsLocalDate y m d
earlier_date y m d e a l h = (h.0, (h.1.0, h.1.1, (omega (arith, ints, a), omega (arith, ints, l, h.1.2))))

pub no_day_32 : (y m : ℕ) → IsLocalDate y m 32 → ⊥
no_day_32 y m h = let few = days_in_month_bounds (pos y) m in absurd (omega (arith, ints, h.1.2, few))

-- what is known of so many days
abbrev pub IsDay : Month → List ℕ → ℕ → Type 0
IsDay m begins i =
    IsLocalDate m.year m.month (i + 1) × IsInstant (slice_index begins i) × BeginsAt (day_number m.year m.month (i + 1)) (slice_index begins i)

-- one more
last_index : (begins : List ℕ) (x n : ℕ) → length begins ≡ n → slice_index (begins ++ x ∷ []) n ≡ x
last_index [] x n e = rw (← e) refl
last_index (b ∷ begins) x n e = rw (← e) (last_index begins x (length begins) refl)

earlier_index : (begins : List ℕ) (x i : ℕ) → i < length begins → slice_index (begins ++ x ∷ []) i ≡ slice_index begins i
earlier_index [] x i l = absurd (omega (arith, l))
earlier_index (b ∷ begins) x zero l = refl
earlier_index (b ∷ begins) x (suc i) l = earlier_index begins x i (omega (arith, l))

pub record AreSome (m : Month) (begins : List ℕ) (n : ℕ) : Type 0 where
  pub count : length begins ≡ n
  pub each : (i : ℕ) → i < n → IsDay m begins i

pub one-day-more : (m : Month) (begins new : List ℕ) (n x : ℕ) → AreSome m begins n → IsLocalDate m.year m.month (n + 1) → IsInstant x → BeginsAt (day_number m.year m.month (n + 1)) x →
    new ≡ begins ++ x ∷ [] → AreSome m new (n + 1)
one-day-more m begins new n x h date within begun is =
    let P : List ℕ → Type 0 = λ xs. AreSome m xs (n + 1) in
    let Q : ℕ → Type 0 = λ y. IsLocalDate m.year m.month (n + 1) × IsInstant y × BeginsAt (day_number m.year m.month (n + 1)) y in
    subst P (sym is) (record {
      count = (let e = length-append begins (x ∷ []) in let k = h.count in omega (arith, e, k));
      each = λ i l. elim (cases_lt i n) [
        | inl k ↦ (
            let same : slice_index (begins ++ x ∷ []) i ≡ slice_index begins i = earlier_index begins x i (let c = h.count in omega (arith, k, c)) in
            let R : ℕ → Type 0 = λ y. IsLocalDate m.year m.month (i + 1) × IsInstant y × BeginsAt (day_number m.year m.month (i + 1)) y in
            subst R (sym same) (h.each i k))
        | inr k ↦ (
            let it : i ≡ n = omega (arith, l, k) in
            rw it (subst Q (sym (last_index begins x n h.count)) (date, within, begun)))
      ];
    })

pub days-are : (m : Month) (begins : List ℕ) (n from until : ℕ) → AreSome m begins n → (IsLocalDate m.year m.month (n + 1) → ⊥) →
    IsSpan m from until → AreDays m begins until
days-are m begins n from until some none span = record {
  dates = λ day. (
    λ h. elim (cases_lt n day) [
      | inl l ↦ absurd (none (earlier_date m.year m.month (n + 1) day (omega arith) (omega (arith, l)) h))
      | inr l ↦ (omega (arith, ints, h.1.2), (let c = some.count in omega (arith, l, c)))
    ],
    λ h.
        let c = some.count in
        let last = some.each (day - 1) (omega (arith, h, c)) in
        let same : day - 1 + 1 ≡ day = omega (arith, h.0) in
        let P : ℕ → Type 0 = λ d. IsLocalDate m.year m.month d in
        subst P same last.0,
  );
  first = λ i l. (let c = some.count in (some.each i (omega (arith, l, c))).1);
  begin = λ i l. (let c = some.count in (some.each i (omega (arith, l, c))).2);
  last = span.month.ends;
  bound = span.month.bound;
}

-- ---- its days are stretches of time
next_begin : (begins : List ℕ) (end i : ℕ) → i + 1 < length begins → end_of begins end i ≡ slice_index begins (i + 1)
next_begin begins end i l = get_or_default begins (i + 1) end 0 l

last_end : (begins : List ℕ) (end i : ℕ) → length begins ≤ i + 1 → end_of begins end i ≡ end
last_end begins end i l = get_or_past begins (i + 1) end l

day_rises : (m : Month) (begins : List ℕ) (end : ℕ) → AreDays m begins end → (i : ℕ) → i < length begins → slice_index begins i < end_of begins end i
day_rises m begins end h i l =
    let date = (h.dates (i + 1)).1 (omega arith, omega (arith, l)) in
    let low = from_first m.year m.month (i + 1) date in
    elim (cases_lt (i + 1) (length begins)) [
      | inl k ↦ (
          let late : 1970 ≤ m.year = omega (arith, date.0.0) in
          let next = next_number m.year m.month (i + 1) late (omega arith) in
          rw (next_begin begins end i k)
          (rises (day_number m.year m.month (i + 1)) (day_number m.year m.month (i + 1 + 1)) (slice_index begins i) (slice_index begins (i + 1)) low (omega (arith, next)) (h.first i l) (h.begin i l) (h.begin (i + 1) k)))
      | inr k ↦ (
          let behind : day_number m.year m.month (i + 1) < day_behind_month m.year m.month = behind_number m.year m.month (i + 1) date in
          rw (last_end begins end i k)
          (rises (day_number m.year m.month (i + 1)) (day_behind_month m.year m.month) (slice_index begins i) end low behind (h.first i l) (h.begin i l) h.last))
    ]

pub days-stretch : (m : Month) (begins : List ℕ) (end : ℕ) → IsThere m → length begins ≤ 31 → AreDays m begins end → AreStretches begins end
days-stretch m begins end there few h = record {
  some = ((h.dates 1).0 (first_date m.year m.month there)).1;
  few = omega (arith, few);
  rising = day_rises m begins end h;
  ended = h.bound.1;
}
