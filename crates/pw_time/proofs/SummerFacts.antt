-- The place of a second among the changes tells whether it lies in summer time.
use Rattle.std.proofs.Common.{◌≡◌, ◌≤◌, ◌<◌, ◌+◌, ◌*◌, ◌/◌, ◌%◌, ◌&&◌, ◌⊎◌, inl, inr, ◌||◌, ◌∷◌, ℕ, List, [], Bool, true, false, pos, zero, suc, length, get_or, nat_eq, nat_lt, refl, arith, ap, sym, ◌∙◌}
use Rattle.std.specs.Prelude.{nat_le}
use Rattle.std.specs.List.{list_any}
use Rattle.jiff_core.specs.Calendar.{weekday_number}
use Rattle.std.proofs.lemmas.Bool.Decides.{nat_tests}
use Rattle.std.proofs.lemmas.Bool.{cases_lt}
use Rattle.std.proofs.lemmas.Int.{ints}
use Rattle.pw_time.specs.declared.instant.TheConstants.{FIRST_SECOND, LAST_SECOND}
use Rattle.pw_time.specs.Instants.{IsInstant}
use Rattle.pw_time.proofs.CalendarFacts.{day_from_1970, october_before_2000, march_from_2100}
use Rattle.pw_time.specs.Summer.{changes_from, years_from, is_summer_of, last_day, last_sunday, summer_start, summer_end, central_changes, is_summer, civil_offset, local_weekday, local_hour}

before_start : (t start end : ℕ) → t < start → (nat_le start t && nat_lt t end) ≡ false
before_start t start end h = grind (arith, nat_tests, h)

behind_end : (t start end : ℕ) → end ≤ t → (nat_le start t && nat_lt t end) ≡ false
behind_end t start end h = grind (arith, nat_tests, h)

between : (t start end : ℕ) → start ≤ t → t < end → (nat_le start t && nat_lt t end) ≡ true
between t start end h k = grind (arith, nat_tests, h, k)

or_left : (a b : Bool) → a ≡ true → (a || b) ≡ true
or_left a b h = grind (arith, h)

or_right : (a b : Bool) → b ≡ true → (a || b) ≡ true
or_right a b h = grind (arith, h)

either_true : (a b : Bool) → (a || b) ≡ true → (a ≡ true) ⊎ (b ≡ true)
either_true true b h = inl refl
either_true false b h = inr h

true_or_false : (b : Bool) → (b ≡ true) ⊎ (b ≡ false)
true_or_false true = inl refl
true_or_false false = inr refl

not_true : false ≡ true → ⊥
not_true h = cc

-- a second before all changes
before_all : (n year t : ℕ) → ((k : ℕ) → k < length (changes_from year n) → t < get_or (changes_from year n) k 0)
    → list_any (is_summer_of t) (years_from year n) ≡ false
before_all zero year t h = refl
before_all (suc n) year t h =
    let here = before_start t (summer_start year) (summer_end year) (h 0 (omega arith)) in
    let later = before_all n (year + 1) t (λ k l. h (suc (suc k)) (omega arith)) in
    rw (here, later) refl

-- an odd number of changes at or before the second
pub parity : (n year t i : ℕ) → ((k : ℕ) → k < i → get_or (changes_from year n) k 0 ≤ t)
    → ((k : ℕ) → i ≤ k → k < length (changes_from year n) → t < get_or (changes_from year n) k 0)
    → i ≤ length (changes_from year n)
    → nat_eq (i % 2) 1 ≡ list_any (is_summer_of t) (years_from year n)
parity zero year t i before behind bound =
    let none : i ≡ 0 = omega arith in rw none refl
parity (suc n) year t zero before behind bound =
    sym (before_all (suc n) year t (λ k l. behind k (omega arith) l))
parity (suc n) year t (suc zero) before behind bound =
    let here = between t (summer_start year) (summer_end year) (before 0 (omega arith)) (behind 1 (omega arith) (omega arith)) in
    rw here refl
parity (suc n) year t (suc (suc i)) before behind bound =
    let here = behind_end t (summer_start year) (summer_end year) (before 1 (omega arith)) in
    let later = parity n (year + 1) t i (λ k l. before (suc (suc k)) (omega arith)) (λ k l m. behind (suc (suc k)) (omega arith) (omega arith)) (omega arith) in
    let two : suc (suc i) % 2 ≡ i % 2 = omega arith in
    rw (here, two) later

pub odd_is_summer : (t i : ℕ) → ((k : ℕ) → k < i → get_or central_changes k 0 ≤ t)
    → ((k : ℕ) → i ≤ k → k < length central_changes → t < get_or central_changes k 0)
    → i ≤ length central_changes → nat_eq (i % 2) 1 ≡ is_summer t
unfolding is_summer central_changes
odd_is_summer t i before behind bound = parity 100 2000 t i before behind bound

-- a year of the list passes the test exactly where the list has one that does
some_year : (p : ℕ → Bool) (first n year : ℕ) → first ≤ year → year < first + n → p year ≡ true → list_any p (years_from first n) ≡ true
some_year p first zero year low high passes = absurd (omega (arith, low, high))
some_year p first (suc n) year low high passes =
    elim (cases_lt first year) [
      | inl later ↦ or_right (p first) _ (some_year p (first + 1) n year (omega (arith, later)) (omega (arith, high)) passes)
      | inr here ↦
          let same : year ≡ first = omega (arith, low, here) in
          or_left _ (list_any p (years_from (first + 1) n)) (ap p (sym same) ∙ passes)
    ]

year_there : (p : ℕ → Bool) (first n : ℕ) → list_any p (years_from first n) ≡ true
    → (year : ℕ) × (first ≤ year) × (year < first + n) × (p year ≡ true)
year_there p first zero passes = absurd (not_true passes)
year_there p first (suc n) passes =
    elim (either_true (p first) (list_any p (years_from (first + 1) n)) passes) [
      | inl here ↦ (first, omega arith, omega arith, here)
      | inr later ↦
          let found = year_there p (first + 1) n later in
          (found.0, omega (arith, found.1), omega (arith, found.2), found.3)
    ]

-- the tests of the years agree, and so do the lists'
any_same : (p q : ℕ → Bool) → ((year : ℕ) → p year ≡ q year) → (years : List ℕ) → list_any p years ≡ list_any q years
any_same p q e [] = refl
any_same p q e (y ∷ ys) = rw (e y, any_same p q e ys) refl

-- a change lies at a whole hour
hour_start : (k t u : ℕ) → t / 3600 ≡ u / 3600 → nat_le (k * 86_400 + 3600) t ≡ nat_le (k * 86_400 + 3600) u
hour_start k t u e = grind (arith, nat_tests, e)

hour_end : (k t u : ℕ) → t / 3600 ≡ u / 3600 → nat_lt t (k * 86_400 + 3600) ≡ nat_lt u (k * 86_400 + 3600)
hour_end k t u e = grind (arith, nat_tests, e)

summer_same_of : (t u year : ℕ) → t / 3600 ≡ u / 3600 → is_summer_of t year ≡ is_summer_of u year
unfolding summer_start summer_end
summer_same_of t u year e = rw (hour_start (last_sunday year 3) t u e, hour_end (last_sunday year 10) t u e) refl

pub summer_same : (t u : ℕ) → t / 3600 ≡ u / 3600 → is_summer t ≡ is_summer u
unfolding is_summer
summer_same t u e = any_same (is_summer_of t) (is_summer_of u) (λ year. summer_same_of t u year e) (years_from 2000 100)

-- the last Sunday is at most six days before the last day
sunday_high : (year month : ℕ) → last_sunday year month ≤ last_day year month
sunday_high year month = omega arith

sunday_low : (year month : ℕ) → last_day year month ≤ last_sunday year month + 6
sunday_low year month = omega arith

-- no summer time before 2000 or from 2100 on has an instant
early_year : (year t : ℕ) → year < 2000 → 1970 ≤ year → FIRST_SECOND ≤ t → t < summer_end year → ⊥
unfolding summer_end
early_year year t early late low end =
    let sunday = sunday_high year 10 in
    let day = october_before_2000 year early in
    let from = day_from_1970 year 10 31 late (omega arith) in
    omega (arith, ints, sunday, day, from, low, end)

late_year : (year t : ℕ) → 2100 ≤ year → t ≤ LAST_SECOND → summer_start year ≤ t → ⊥
unfolding summer_start
late_year year t late high start =
    let sunday = sunday_low year 3 in
    let day = march_from_2100 year late in
    omega (arith, ints, sunday, day, high, start)

tests_of : (t start end : ℕ) → (nat_le start t && nat_lt t end) ≡ true → (start ≤ t) × (t < end)
tests_of t start end h = (grind (arith, nat_tests, h), grind (arith, nat_tests, h))

pub of_some_year : (t : ℕ) → is_summer t ≡ true → (year : ℕ) × (1970 ≤ year) × (summer_start year ≤ t) × (t < summer_end year)
unfolding is_summer
of_some_year t summer =
    let found = year_there (is_summer_of t) 2000 100 summer in
    let tests = tests_of t (summer_start found.0) (summer_end found.0) found.3 in
    (found.0, omega (arith, found.1), tests.0, tests.1)

pub in_summer_of_some_year : (t year : ℕ) → IsInstant t → 1970 ≤ year → summer_start year ≤ t → t < summer_end year → is_summer t ≡ true
unfolding is_summer
in_summer_of_some_year t year instant late start end =
    elim (cases_lt year 2000) [
      | inl early ↦ absurd (early_year year t early late instant.0 end)
      | inr from ↦ elim (cases_lt year 2100) [
        | inl below ↦ some_year (is_summer_of t) 2000 100 year from below (between t (summer_start year) (summer_end year) start end)
        | inr above ↦ absurd (late_year year t above instant.1 start)
      ]
    ]

-- seconds of one hour are in one local hour
summer_hour : (t u : ℕ) → t / 3600 ≡ u / 3600
    → ((t + 7200) / 86_400 ≡ (u + 7200) / 86_400) × ((t + 7200) % 86_400 / 3600 ≡ (u + 7200) % 86_400 / 3600)
summer_hour t u e = (omega (arith, e), omega (arith, e))

winter_hour : (t u : ℕ) → t / 3600 ≡ u / 3600
    → ((t + 3600) / 86_400 ≡ (u + 3600) / 86_400) × ((t + 3600) % 86_400 / 3600 ≡ (u + 3600) % 86_400 / 3600)
winter_hour t u e = (omega (arith, e), omega (arith, e))

pub local_same : (t u : ℕ) → t / 3600 ≡ u / 3600
    → (civil_offset t ≡ civil_offset u) × (local_weekday t ≡ local_weekday u) × (local_hour t ≡ local_hour u)
local_same t u e =
    let same = summer_same t u e in
    elim (true_or_false (is_summer t)) [
      | inl summer ↦
          let hour = summer_hour t u e in
          rw (← same, summer) (refl, ap (λ day. weekday_number (pos day)) hour.0, hour.1)
      | inr winter ↦
          let hour = winter_hour t u e in
          rw (← same, winter) (refl, ap (λ day. weekday_number (pos day)) hour.0, hour.1)
    ]
