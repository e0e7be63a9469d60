-- A period that repeats the week and the prices of the one before it changes nothing.
use Rattle.std.proofs.Common.{◌≡◌, ℕ, zero, suc, ◌+◌, ◌<◌, ◌≤◌, nat_le, Bool, cond, Option, Some, List, [], ◌∷◌, ◌++◌, length, map, get_or, slice_get, refl, ap, sym, subst, ◌∙◌, inl, inr, arith}
use Rattle.std.specs.Prelude.{count_by}
use Rattle.std.specs.List.Sorted.{IsStrictlyIncreasing}
use Rattle.std.proofs.lemmas.Bool.{cases_lt, le-leb, lt-leb}
use Rattle.std.proofs.lemmas.List.Sums.{sum_by-cons, count_by-le-length}
use Rattle.pw_time.specs.declared.instant.TheConstants.{FIRST_SECOND}
use Rattle.pw_time.specs.Summer.{local_weekday, local_hour}
use Rattle.pw_tariff.specs.declared.ids.Direction.{Direction}
use Rattle.pw_tariff.specs.Office.{OfficeFile, PeriodText, periods_in, period_at, letter, band_named, week_in, week_of_period, band_at, price_of, price_in, price_at, office_of}
use Rattle.pw_model.specs.Laws.{with_later, RepeatsPeriod, SplitsPeriods, RepeatedPeriodChangesNothing}
use Rattle.pw_model.proofs.Periods.{split-periods}

-- ---- numbers without the one behind n
abbrev skip : ℕ → ℕ → ℕ
skip zero zero = zero
skip zero (suc k) = k
skip (suc n) zero = zero
skip (suc n) (suc k) = suc (skip n k)

-- v at 0, and behind it what f tells of a list
abbrev told_at : {V : Type 0} → (Option PeriodText → V) → V → List PeriodText → ℕ → V
told_at f v later zero = v
told_at f v later (suc k) = f (slice_get later k)

told-behind : {V : Type 0} (f : Option PeriodText → V) (v : V) (x : PeriodText) (later : List PeriodText) (k : ℕ) → told_at f v (x ∷ later) (suc k) ≡ told_at f (f (Some x)) later k
told-behind f v x later zero = refl
told-behind f v x later (suc k) = refl

-- where p tells what is told before it, nothing else is told without it
told-same : {V : Type 0} (f : Option PeriodText → V) (v : V) (xs ys : List PeriodText) (p : PeriodText) (k : ℕ) → f (Some p) ≡ told_at f v xs (length xs) →
    told_at f v (xs ++ p ∷ ys) k ≡ told_at f v (xs ++ ys) (skip (length xs) k)
told-same f v [] ys p zero h = refl
told-same f v [] ys p (suc zero) h = h
told-same f v [] ys p (suc (suc k)) h = refl
told-same f v (x ∷ xs) ys p zero h = refl
told-same f v (x ∷ xs) ys p (suc k) h =
    told-behind f v x (xs ++ p ∷ ys) k
    ∙ told-same f (f (Some x)) xs ys p k (h ∙ told-behind f v x xs (length xs))
    ∙ sym (told-behind f v x (xs ++ ys) (skip (length xs) k))

-- ---- which have begun
abbrev begun : ℕ → List PeriodText → ℕ
begun t ps = count_by (λ p. nat_le p.start t) ps

abbrev starts : List PeriodText → List ℕ
starts ps = map (λ p. p.start) ps

begun-cons : (t : ℕ) (x : PeriodText) (ps : List PeriodText) → begun t (x ∷ ps) ≡ cond (nat_le x.start t) 1 0 + begun t ps
begun-cons t x ps = sum_by-cons (λ (p : PeriodText). cond (nat_le p.start t) 1 0) x ps

begun-more : (t : ℕ) (x : PeriodText) (ps : List PeriodText) → x.start ≤ t → begun t (x ∷ ps) ≡ suc (begun t ps)
begun-more t x ps l =
    let e : begun t (x ∷ ps) ≡ 1 + begun t ps = begun-cons t x ps ∙ ap (λ (b : Bool). cond b 1 0 + begun t ps) (le-leb x.start t l) in
    omega (arith, e)

begun-less : (t : ℕ) (x : PeriodText) (ps : List PeriodText) → t < x.start → begun t (x ∷ ps) ≡ begun t ps
begun-less t x ps l =
    let e : begun t (x ∷ ps) ≡ 0 + begun t ps = begun-cons t x ps ∙ ap (λ (b : Bool). cond b 1 0 + begun t ps) (lt-leb x.start t l) in
    omega (arith, e)

rising-rest : (a : ℕ) (ss : List ℕ) → IsStrictlyIncreasing (a ∷ ss) → IsStrictlyIncreasing ss
rising-rest a ss h k l =
    let e : suc k + 1 ≡ suc (k + 1) = omega arith in
    let P : ℕ → Type 0 = λ n. get_or ss k 0 < get_or (a ∷ ss) n 0 in
    subst P e (h (suc k) (omega arith))

-- where one hasn't begun, none behind it has
none-begun : (t : ℕ) (x : PeriodText) (ps : List PeriodText) → IsStrictlyIncreasing (starts (x ∷ ps)) → t < x.start → begun t (x ∷ ps) ≡ 0
none-begun t x [] h l = begun-less t x [] l
none-begun t x (y ∷ ps) h l =
    let m : x.start < y.start = h 0 (omega arith) in
    begun-less t x (y ∷ ps) l ∙ none-begun t y ps (rising-rest x.start (starts (y ∷ ps)) h) (omega (arith, l, m))

fewer-begun : (t : ℕ) (xs ys : List PeriodText) (p : PeriodText) → begun t (xs ++ ys) ≤ begun t (xs ++ p ∷ ys)
fewer-begun t [] ys p = let e = begun-cons t p ys in omega (arith, e)
fewer-begun t (x ∷ xs) ys p =
    let r = fewer-begun t xs ys p in
    let a = begun-cons t x (xs ++ ys) in
    let b = begun-cons t x (xs ++ p ∷ ys) in
    omega (arith, r, a, b)

begun-same : (t : ℕ) (xs ys : List PeriodText) (p : PeriodText) → IsStrictlyIncreasing (starts (xs ++ p ∷ ys)) → begun t (xs ++ ys) ≡ skip (length xs) (begun t (xs ++ p ∷ ys))
begun-same t [] ys p h =
    elim (cases_lt t p.start) [
      | inl l ↦ (
          let z : begun t (p ∷ ys) ≡ 0 = none-begun t p ys h l in
          let f : begun t ys ≤ begun t (p ∷ ys) = fewer-begun t [] ys p in
          let n : begun t ys ≡ 0 = omega (arith, z, f) in
          n ∙ sym (ap (λ k. skip zero k) z))
      | inr l ↦ sym (ap (λ k. skip zero k) (begun-more t p ys l))
    ]
begun-same t (x ∷ xs) ys p h =
    elim (cases_lt t x.start) [
      | inl l ↦ (
          let z : begun t (x ∷ (xs ++ p ∷ ys)) ≡ 0 = none-begun t x (xs ++ p ∷ ys) h l in
          let f : begun t (x ∷ (xs ++ ys)) ≤ begun t (x ∷ (xs ++ p ∷ ys)) = fewer-begun t (x ∷ xs) ys p in
          let n : begun t (x ∷ (xs ++ ys)) ≡ 0 = omega (arith, z, f) in
          n ∙ sym (ap (λ k. skip (suc (length xs)) k) z))
      | inr l ↦ (
          let r = begun-same t xs ys p (rising-rest x.start (starts (xs ++ p ∷ ys)) h) in
          begun-more t x (xs ++ ys) l ∙ ap (λ k. suc k) r ∙ sym (ap (λ k. skip (suc (length xs)) k) (begun-more t x (xs ++ p ∷ ys) l)))
    ]

-- ---- a file without the period that repeats the one before it, and with it
period-below : (file : OfficeFile) (t : ℕ) → period_at file t < periods_in file
unfolding period_at
period-below file t = let l = count_by-le-length (λ (p : PeriodText). nat_le p.start t) file.later in omega (arith, l)

week-at : (file : OfficeFile) (later : List PeriodText) (k : ℕ) → week_of_period (with_later file later) k ≡ told_at week_in file.week later k
week-at file later zero = refl
week-at file later (suc k) = refl

price-told : (file : OfficeFile) (later : List PeriodText) (k n : ℕ) (d : Direction) → price_at (with_later file later) k n d ≡ told_at (λ o. price_in o n d) (price_of (slice_get file.bands n) d) later k
unfolding price_at
price-told file later zero n d = refl
price-told file later (suc k) n d = refl

week-same : (file : OfficeFile) (xs ys : List PeriodText) (p : PeriodText) → RepeatsPeriod file xs p → (k : ℕ) →
    week_of_period (with_later file (xs ++ p ∷ ys)) k ≡ week_of_period (with_later file (xs ++ ys)) (skip (length xs) k)
week-same file xs ys p r k =
    week-at file (xs ++ p ∷ ys) k
    ∙ told-same week_in file.week xs ys p k (r.week ∙ week-at file xs (length xs))
    ∙ sym (week-at file (xs ++ ys) (skip (length xs) k))

price-same : (file : OfficeFile) (xs ys : List PeriodText) (p : PeriodText) → RepeatsPeriod file xs p → (k n : ℕ) (d : Direction) →
    price_at (with_later file (xs ++ p ∷ ys)) k n d ≡ price_at (with_later file (xs ++ ys)) (skip (length xs) k) n d
price-same file xs ys p r k n d =
    price-told file (xs ++ p ∷ ys) k n d
    ∙ told-same (λ o. price_in o n d) (price_of (slice_get file.bands n) d) xs ys p k (r.price n d ∙ price-told file xs (length xs) n d)
    ∙ sym (price-told file (xs ++ ys) (skip (length xs) k) n d)

period-within : (file : OfficeFile) (xs ys : List PeriodText) (p : PeriodText) → IsStrictlyIncreasing (starts (xs ++ p ∷ ys)) → (t : ℕ) →
    period_at (with_later file (xs ++ ys)) t ≡ skip (length xs) (period_at (with_later file (xs ++ p ∷ ys)) t)
unfolding period_at
period-within file xs ys p h t = begun-same t xs ys p h

band-same : (file : OfficeFile) (xs ys : List PeriodText) (p : PeriodText) → IsStrictlyIncreasing (starts (xs ++ p ∷ ys)) → RepeatsPeriod file xs p → (t : ℕ) →
    band_at (with_later file (xs ++ ys)) t ≡ band_at (with_later file (xs ++ p ∷ ys)) t
unfolding band_at
band-same file xs ys p h r t =
    let without = with_later file (xs ++ ys) in
    let with_it = with_later file (xs ++ p ∷ ys) in
    let same : week_of_period without (period_at without t) ≡ week_of_period with_it (period_at with_it t)
    = ap (λ k. week_of_period without k) (period-within file xs ys p h t) ∙ sym (week-same file xs ys p r (period_at with_it t)) in
    ap (λ (week : List (List ℕ)). band_named file.bands (letter week (local_weekday t) (local_hour t))) same

pub repeated-period : RepeatedPeriodChangesNothing
repeated-period file xs ys p s sound r =
    let rising : IsStrictlyIncreasing (starts (xs ++ p ∷ ys)) = rising-rest FIRST_SECOND (starts (xs ++ p ∷ ys)) sound.in_time in
    let without = with_later file (xs ++ ys) in
    let with_it = with_later file (xs ++ p ∷ ys) in
    let split : SplitsPeriods (office_of without) (office_of with_it) = record {
      accounts = refl;
      meters = refl;
      bands = refl;
      end = refl;
      counts = refl;
      band = λ i t. band-same file xs ys p rising r t i;
      whole = λ k. skip (length xs) k;
      within = period-within file xs ys p rising;
      price = price-same file xs ys p r;
    } in
    split-periods (office_of without) (office_of with_it) s (period-below without) (period-below with_it) split
