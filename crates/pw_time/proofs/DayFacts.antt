-- Where local days begin.
use Rattle.std.proofs.Common.{◌≡◌, ◌≤◌, ◌<◌, ◌+◌, ◌-◌, ◌*◌, ◌/◌, ◌⊎◌, ◌↔◌, inl, inr, ℕ, List, Bool, true, false, cond, pos, nat_le, nat_lt, lt-ltb, le-ltb, refl, arith, ap, sym, subst, ◌∙◌}
use Rattle.std.specs.Prelude.{if◌then◌else◌, Option, Some, None, IfSome}
use Rattle.std.specs.List.{list_any}
use Rattle.std.proofs.lemmas.Bool.{cases_Bool, cases_lt, le-leb, lt-leb, true≢false}
use Rattle.std.proofs.lemmas.Int.{ints}
use Rattle.jiff.proofs.OnLiterals.{jiff_on_literals}
use Rattle.jiff_core.proofs.CalendarLemmas.{days_in_month_bounds}
use Rattle.pw_time.specs.declared.civil.CivilTime.{CivilTime}
use Rattle.pw_time.specs.declared.fault.StampFault.{StampFault}
use Rattle.pw_time.specs.declared.fault.StampFault.TheVariants.{Form, NoSuchDate, NoSuchTime, Mark, Range, Gap, Fold}
use Rattle.pw_time.specs.declared.instant.TheConstants.{FIRST_SECOND, END_SECOND}
use Rattle.pw_time.specs.Instants.{IsInstant}
use Rattle.pw_time.specs.Civil.{civil_second}
use Rattle.pw_time.specs.Outcomes.{IsMissing}
use Rattle.pw_time.specs.Summer.{last_sunday, summer_start, summer_end, is_summer_of, years_from, is_summer, civil_offset, local_second}
use Rattle.pw_time.specs.Texts.{IsShortYear}
use Rattle.pw_time.specs.Days.{BeginsAt, IsBound, IsLocalDate, IsLocalMonth, day_number, day_of, local_day}
use Rattle.pw_time.specs.DayLaws.{AreFirstAndLast, DayBeginsAtMidnight, DayBeginsOnce, DayHas23To25Hours}

-- ---- clocks change at 01:00Z, so not from 01:00Z of a day up to 01:00Z of the next
abbrev pub LiesIn : ℕ → ℕ → Type 0
LiesIn d t = (d * 86_400 + 3600 ≤ t) × (t < d * 86_400 + 90_000)

start_steady : (k d t u : ℕ) → LiesIn d t → LiesIn d u → nat_le (k * 86_400 + 3600) t ≡ nat_le (k * 86_400 + 3600) u
start_steady k d t u a b =
    elim (cases_lt d k) [
      | inl l ↦ lt-leb (k * 86_400 + 3600) t (omega (arith, a, l))
          ∙ sym (lt-leb (k * 86_400 + 3600) u (omega (arith, b, l)))
      | inr l ↦ le-leb (k * 86_400 + 3600) t (omega (arith, a, l))
          ∙ sym (le-leb (k * 86_400 + 3600) u (omega (arith, b, l)))
    ]

end_steady : (k d t u : ℕ) → LiesIn d t → LiesIn d u → nat_lt t (k * 86_400 + 3600) ≡ nat_lt u (k * 86_400 + 3600)
end_steady k d t u a b =
    elim (cases_lt d k) [
      | inl l ↦ lt-ltb t (k * 86_400 + 3600) (omega (arith, a, l))
          ∙ sym (lt-ltb u (k * 86_400 + 3600) (omega (arith, b, l)))
      | inr l ↦ le-ltb t (k * 86_400 + 3600) (omega (arith, a, l))
          ∙ sym (le-ltb u (k * 86_400 + 3600) (omega (arith, b, l)))
    ]

year_steady : (d t u year : ℕ) → LiesIn d t → LiesIn d u → is_summer_of t year ≡ is_summer_of u year
unfolding summer_start summer_end
year_steady d t u year a b =
    rw (start_steady (last_sunday year 3) d t u a b, end_steady (last_sunday year 10) d t u a b) refl

years_steady : (d t u : ℕ) → LiesIn d t → LiesIn d u → (years : List ℕ) →
    list_any (is_summer_of t) years ≡ list_any (is_summer_of u) years
years_steady d t u a b years = λ i. list_any (λ year. year_steady d t u year a b i) years

summer_steady : (d t u : ℕ) → LiesIn d t → LiesIn d u → is_summer t ≡ is_summer u
unfolding is_summer
summer_steady d t u a b = years_steady d t u a b (years_from 2000 100)

offset_steady : (d t u : ℕ) → LiesIn d t → LiesIn d u → civil_offset t ≡ civil_offset u
offset_steady d t u a b = ap (λ (s : Bool). if s then 7200 else 3600) (summer_steady d t u a b)

pub offset_is : (t : ℕ) → (civil_offset t ≡ 7200) ⊎ (civil_offset t ≡ 3600)
offset_is t = elim (cases_Bool (is_summer t)) [ inl e ↦ inl (rw e refl) | inr e ↦ inr (rw e refl) ]

offset_bounds : (t : ℕ) → (3600 ≤ civil_offset t) × (civil_offset t ≤ 7200)
offset_bounds t =
    elim (offset_is t) [
      | inl e ↦ rw e (omega arith, omega arith)
      | inr e ↦ rw e (omega arith, omega arith)
    ]

-- ---- where the second of local midnight is reached; o and p are the offsets at t and at the midnight
abbrev IsReached : ℕ → ℕ → ℕ → ℕ → Type 0
IsReached e t o p = (e * 86_400 + 86_400 - p ≤ t) ↔ (e + 1 ≤ (t + o) / 86_400)

reached_early : (e t o p : ℕ) → o ≤ 7200 → p ≤ 7200 → t < e * 86_400 + 3600 → IsReached e t o p
reached_early e t o p a b l = (λ h. absurd (omega arith), λ h. absurd (omega arith))

reached_late : (e t o p : ℕ) → 3600 ≤ p → e * 86_400 + 90_000 ≤ t → IsReached e t o p
reached_late e t o p a l = (λ h. omega arith, λ h. omega arith)

reached_there : (e t o : ℕ) → o ≤ 7200 → IsReached e t o o
reached_there e t o a = (λ h. omega arith, λ h. omega arith)

reached : (e t : ℕ) → IsReached e t (civil_offset t) (civil_offset (e * 86_400 + 82_800))
reached e t =
    let here = offset_bounds t in
    let there = offset_bounds (e * 86_400 + 82_800) in
    elim (cases_lt t (e * 86_400 + 3600)) [
      | inl l ↦ reached_early e t (civil_offset t) (civil_offset (e * 86_400 + 82_800)) here.1 there.1 l
      | inr g ↦ elim (cases_lt t (e * 86_400 + 90_000)) [
        | inr l ↦ reached_late e t (civil_offset t) (civil_offset (e * 86_400 + 82_800)) there.0 l
        | inl l ↦ (
            let same : civil_offset t ≡ civil_offset (e * 86_400 + 82_800)
            = offset_steady e t (e * 86_400 + 82_800) (g, l) (omega arith, omega arith) in
            let P : ℕ → Type 0 = IsReached e t (civil_offset t) in
            subst P same (reached_there e t (civil_offset t) here.1))
      ]
    ]

-- ---- the days of the century
day_of_is : (d n : ℕ) → d ≤ 47_481 → (d ≤ n) ↔ (d ≤ cond (nat_lt n 47_482) n 47_481)
day_of_is d n l =
    elim (cases_lt n 47_482) [
      | inl a ↦ rw (lt-ltb n 47_482 a) (λ h. h, λ h. h)
      | inr a ↦ rw (le-ltb n 47_482 a) (λ h. l, λ h. omega (arith, l, a))
    ]

day_of_below : (n : ℕ) → cond (nat_lt n 47_482) n 47_481 < 47_482
day_of_below n =
    elim (cases_lt n 47_482) [
      | inl a ↦ rw (lt-ltb n 47_482 a) a
      | inr a ↦ rw (le-ltb n 47_482 a) (omega arith)
    ]

begins_before : (e t : ℕ) → e + 1 ≤ 47_481 →
    (e * 86_400 + 86_400 - civil_offset (e * 86_400 + 82_800) ≤ t) ↔ (e + 1 ≤ day_of t)
begins_before e t l =
    let a = reached e t in
    let b = day_of_is (e + 1) (local_day t) l in
    (λ h. b.0 (a.0 h), λ h. a.1 (b.1 h))

-- a day from the first on begins an offset before midnight in UTC
pub begins : (d m : ℕ) → m ≡ d * 86_400 → IsInstant m → BeginsAt d (m - civil_offset (m - 3600))
begins d m is within =
    let P : ℕ → Type 0 = λ v. BeginsAt v (m - civil_offset (m - 3600)) in
    let Q : ℕ → Type 0 = λ v. BeginsAt (d - 1 + 1) (v - civil_offset (v - 3600)) in
    let R : ℕ → Type 0 = λ v. BeginsAt (d - 1 + 1) ((d - 1) * 86_400 + 86_400 - civil_offset v) in
    let day : d - 1 + 1 ≡ d = omega (arith, is, within) in
    let whole : (d - 1) * 86_400 + 86_400 ≡ m = omega (arith, is, within) in
    let probe : (d - 1) * 86_400 + 82_800 ≡ (d - 1) * 86_400 + 86_400 - 3600 = omega arith in
    let late : d - 1 + 1 ≤ 47_481 = omega (arith, is, within) in
    subst P day (subst Q whole (subst R probe (λ t i. begins_before (d - 1) t late)))

-- where that is before all instants, with the first of them
pub begins_first : (d x : ℕ) → x < FIRST_SECOND → BeginsAt d x → BeginsAt d FIRST_SECOND
begins_first d x early h = λ t i. (λ g. (h t i).0 (omega (arith, early, i.0)), λ g. i.0)

pub begins_from_first : (d m o x r : ℕ) → m ≡ d * 86_400 → IsInstant m → o ≡ civil_offset (m - 3600) → x ≡ m - o →
    ((r ≡ x) × (FIRST_SECOND ≤ x)) ⊎ ((r ≡ FIRST_SECOND) × (x < FIRST_SECOND)) → BeginsAt d r
begins_from_first d m o x r is within ahead e found =
    let P : ℕ → Type 0 = λ v. BeginsAt d v in
    let whole : m - civil_offset (m - 3600) ≡ x = ap (λ v. m - v) (sym ahead) ∙ sym e in
    let at : BeginsAt d x = subst P whole (begins d m is within) in
    elim found [
      | inl there ↦ subst P (sym there.0) at
      | inr early ↦ subst P (sym early.0) (begins_first d x early.1 at)
    ]

pub instant_from_first : (m o x r : ℕ) → IsInstant m → x ≡ m - o →
    ((r ≡ x) × (FIRST_SECOND ≤ x)) ⊎ ((r ≡ FIRST_SECOND) × (x < FIRST_SECOND)) → IsInstant r
instant_from_first m o x r within e found =
    elim found [
      | inl there ↦ (omega (arith, there), omega (arith, there, e, within))
      | inr early ↦ (omega (arith, early), omega (arith, early))
    ]

pub begins_some : (r : Option ℕ) (x d : ℕ) → IfSome r (λ i. i ≡ x) → BeginsAt d x → IfSome r (BeginsAt d)
begins_some None x d h b = tt
begins_some (Some i) x d h b = let P : ℕ → Type 0 = BeginsAt d in subst P (sym h) b

-- ---- dates
pub few_digits : (year month day : ℕ) → IsLocalDate year month day → IsShortYear year × (month < 100) × (day < 100)
few_digits year month day h =
    let short = days_in_month_bounds (pos year) month in
    let m : month < 100 = omega (arith, ints, h.1.1) in
    let d : day < 100 = omega (arith, ints, h.1.2, short) in
    (h.0, m, d)

abbrev pub midnight_of : ℕ → ℕ → ℕ → CivilTime
midnight_of y m d = record { year = y; month = m; day = d; hour = 0; minute = 0; second = 0 }

pub midnight_is : (year month day n : ℕ) → pos n ≡ civil_second (midnight_of year month day) →
    n ≡ day_number year month day * 86_400
midnight_is year month day n e = omega (arith, ints, e)

-- a date that isn't there is no local one
pub not_missing : (year month day : ℕ) (fault : StampFault) → IsMissing (midnight_of year month day) fault →
    IsLocalDate year month day → ⊥
not_missing year month day NoSuchDate h l = h l.1
not_missing year month day NoSuchTime h l = h.1 (omega arith, omega arith, omega arith)
not_missing year month day Form h l = h
not_missing year month day Mark h l = h
not_missing year month day Range h l = h
not_missing year month day Gap h l = h
not_missing year month day Fold h l = h

pub first_date : (year month : ℕ) → IsLocalMonth year month → IsLocalDate year month 1
first_date year month h =
    let days = days_in_month_bounds (pos year) month in (
      h.0,
      (
        (omega (arith, ints), omega (arith, ints, h.0)),
        (omega (arith, ints, h.1), omega (arith, ints, h.2)),
        (omega (arith, ints), omega (arith, ints, days)),
      ),
    )

pub month_of : (year month : ℕ) → IsLocalDate year month 1 → IsLocalMonth year month
month_of year month h = (h.0, omega (arith, ints, h.1.1), omega (arith, ints, h.1.1))

-- ---- the first day, and the day behind the last
new_year : day_number 2100 1 1 ≡ 47_482
unfolding jiff_on_literals
new_year = refl

begins_last : BeginsAt 47_482 END_SECOND
begins_last t i =
    let low = day_of_below (local_day t) in
    (λ g. absurd (omega (arith, g, i.1)), λ g. absurd (omega (arith, g, low)))

pub begins_2100 : (year month : ℕ) → year ≡ 2100 → month ≡ 1 → BeginsAt (day_number year month 1) END_SECOND
begins_2100 year month y m =
    let P : ℕ → Type 0 = λ v. BeginsAt v END_SECOND in
    let e : day_number year month 1 ≡ 47_482 = (λ i. day_number (y i) (m i) 1) ∙ new_year in
    subst P (sym e) begins_last

-- a month that has no first date is the one behind all
pub begins_behind_all : (year month : ℕ) → (IsLocalDate year month 1 → false ≡ true) →
    IsLocalMonth year month ⊎ ((year ≡ 2100) × (month ≡ 1)) →
    BeginsAt (day_number year month 1) END_SECOND
begins_behind_all year month none known =
    elim known [
      | inl m ↦ absurd (true≢false (sym (none (first_date year month m))))
      | inr e ↦ begins_2100 year month e.0 e.1
    ]

first_instants : (t o : ℕ) → IsInstant t → 3600 ≤ o → 10_957 ≤ (t + o) / 86_400
first_instants t o i l = omega (arith, i.0, l)

begins_with_all : BeginsAt 10_957 FIRST_SECOND
begins_with_all t i =
    let late = first_instants t (civil_offset t) i (offset_bounds t).0 in
    let day = (day_of_is 10_957 (local_day t) (omega arith)).0 late in
    (λ g. day, λ g. i.0)

pub first_and_last : AreFirstAndLast
first_and_last = record { first = begins_with_all; last = begins_last }

-- ---- each once, and at midnight
below_one : (d x y : ℕ) → IsBound x → IsBound y → BeginsAt d x → BeginsAt d y → x < y → ⊥
below_one d x y a b g h l =
    let i : IsInstant x = (a.0, omega (arith, l, b.1)) in
    let early : y ≤ x = (h x i).1 ((g x i).0 (omega arith)) in
    omega (arith, early, l)

pub begins_once : DayBeginsOnce
begins_once d x y a b g h =
    elim (cases_lt x y) [
      | inl l ↦ absurd (below_one d x y a b g h l)
      | inr l ↦ elim (cases_lt y x) [
        | inl k ↦ absurd (below_one d y x b a h g k)
        | inr k ↦ omega (arith, l, k)
      ]
    ]

-- the second of midnight has the offset that it is found by
abbrev found : ℕ → ℕ
found d = d * 86_400 - civil_offset (d * 86_400 - 3600)

found_offset : (d : ℕ) → 1 ≤ d → civil_offset (found d) ≡ civil_offset (d * 86_400 - 3600)
found_offset d l =
    let o = offset_bounds (d * 86_400 - 3600) in
    offset_steady (d - 1) (found d) (d * 86_400 - 3600)
    (omega (arith, l, o), omega (arith, l, o)) (omega (arith, l), omega (arith, l))

found_midnight : (d : ℕ) → 1 ≤ d → local_second (found d) ≡ d * 86_400
found_midnight d l =
    let e = found_offset d l in
    let o = offset_bounds (d * 86_400 - 3600) in
    omega (arith, l, e, o)

pub at_midnight : DayBeginsAtMidnight
at_midnight d x low high a h =
    let o = offset_bounds (d * 86_400 - 3600) in
    let within : IsInstant (d * 86_400) = (omega (arith, low), omega (arith, high)) in
    let bound : IsBound (found d) = (omega (arith, low, o), omega (arith, high, o)) in
    let same : x ≡ found d = begins_once d x (found d) a bound h (begins d (d * 86_400) refl within) in
    let one : 1 ≤ d = omega (arith, low) in
    ap (λ (v : ℕ). local_second v) same ∙ found_midnight d one

hours : (x y o p day : ℕ) → (o ≡ 7200) ⊎ (o ≡ 3600) → (p ≡ 7200) ⊎ (p ≡ 3600) → x + o ≡ day → y + p ≡ day + 86_400 →
    (y ≡ x + 82_800) ⊎ ((y ≡ x + 86_400) ⊎ (y ≡ x + 90_000))
hours x y o p day (inl a) (inl b) e f = inr (inl (omega arith))
hours x y o p day (inr a) (inr b) e f = inr (inl (omega arith))
hours x y o p day (inr a) (inl b) e f = inl (omega arith)
hours x y o p day (inl a) (inr b) e f = inr (inr (omega arith))

pub has_hours : DayHas23To25Hours
has_hours d x y low high a b g h =
    let e : local_second x ≡ d * 86_400 = at_midnight d x low (omega (arith, high)) a g in
    let f : local_second y ≡ (d + 1) * 86_400 = at_midnight (d + 1) y (omega (arith, low)) (omega (arith, high)) b h in
    let k : local_second y ≡ d * 86_400 + 86_400 = omega (arith, f) in
    hours x y (civil_offset x) (civil_offset y) (d * 86_400) (offset_is x) (offset_is y) e k
