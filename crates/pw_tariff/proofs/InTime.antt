-- The periods of an office, in time.
use Rattle.std.proofs.Common.{◌≡◌, ℕ, zero, suc, ◌+◌, ◌/◌, ◌%◌, ◌<◌, ◌≤◌, Some, slice_get, List, [], ◌∷◌, length, map, get_or, count_by, nat_le, Bool, cond, refl, sym, ◌∙◌, ap, subst, arith, inl, inr}
use Rattle.std.specs.List.Sorted.{IsStrictlyIncreasing}
use Rattle.std.proofs.lemmas.Bool.{cases_lt, le-leb, lt-leb}
use Rattle.std.proofs.lemmas.List.{length-map}
use Rattle.std.proofs.lemmas.List.Sums.{sum_by-cons, count_by-le-length}
use Rattle.std.proofs.lemmas.Option.{none-some, same_Some}
use Rattle.pw_time.specs.declared.instant.TheConstants.{FIRST_SECOND}
use Rattle.pw_tariff.specs.Office.{OfficeFile, PeriodText, IsSound, IsWeek, period_at, periods_in, week_of_period}
use Rattle.pw_tariff.specs.declared.office.Period.{Period}
use Rattle.pw_tariff.specs.Held.{period_of}
use Rattle.pw_tariff.specs.Laws.{PeriodIsTheLatest}

-- ---- how many of a list pass a test
pub count-map : {X Y : Type 0} (f : X → Y) (p : Y → Bool) (xs : List X) → count_by p (map f xs) ≡ count_by (λ x. p (f x)) xs
count-map f p [] = refl
count-map f p (x ∷ xs) =
    sum_by-cons (λ y. cond (p y) 1 0) (f x) (map f xs) ∙ ap (λ n. cond (p (f x)) 1 0 + n) (count-map f p xs)
    ∙ sym (sum_by-cons (λ y. cond (p (f y)) 1 0) x xs)

count-alike : {X : Type 0} (p q : X → Bool) (xs : List X) → ((i : ℕ) (d : X) → i < length xs → p (get_or xs i d) ≡ q (get_or xs i d)) → count_by p xs ≡ count_by q xs
count-alike p q [] h = refl
count-alike p q (x ∷ xs) h =
    sum_by-cons (λ y. cond (p y) 1 0) x xs
    ∙ ap (λ n. cond (p x) 1 0 + n) (count-alike p q xs (λ i d l. h (suc i) d (omega arith)))
    ∙ ap (λ b. cond b 1 0 + count_by q xs) (h 0 x (omega arith))
    ∙ sym (sum_by-cons (λ y. cond (q y) 1 0) x xs)

-- ---- within an hour
same-begun : (s t u : ℕ) → s % 3600 ≡ 0 → t / 3600 ≡ u / 3600 → nat_le s t ≡ nat_le s u
same-begun s t u m h =
    elim (cases_lt t s) [
      | inl l ↦ (let k : u < s = omega arith in rw (lt-leb s t l, lt-leb s u k) refl)
      | inr l ↦ (let k : s ≤ u = omega arith in rw (le-leb s t l, le-leb s u k) refl)
    ]

pub same-period : (file : OfficeFile) → IsSound file → (t u : ℕ) → t / 3600 ≡ u / 3600 → period_at file t ≡ period_at file u
unfolding period_at
same-period file s t u h =
    count-alike (λ p. nat_le p.start t) (λ p. nat_le p.start u) file.later (λ i d l. same-begun _ t u (s.later i d l).hour h)

-- as the program counts them
pub counted : (file : OfficeFile) (ps : List Period) (t : ℕ) → file.later ≡ map period_of ps → period_at file t ≡ count_by (λ p. nat_le p.start t) ps
unfolding period_at
counted file ps t e = rw e (count-map period_of (λ (q : PeriodText). nat_le q.start t) ps)

-- ---- the weeks
pub period-bound : (file : OfficeFile) (t : ℕ) → period_at file t < periods_in file
unfolding period_at
period-bound file t = let l = count_by-le-length (λ (p : PeriodText). nat_le p.start t) file.later in omega (arith, l)

pub read-at : {X : Type 0} (xs : List X) (i : ℕ) (d : X) → i < length xs → slice_get xs i ≡ Some (get_or xs i d)
read-at [] i d l = absurd (omega arith)
read-at (x ∷ xs) zero d l = refl
read-at (x ∷ xs) (suc i) d l = read-at xs i d (omega arith)

abbrev no-period : PeriodText
no-period = record { start = 0; week = []; import_prices = []; export_prices = [] }

pub week-is : (file : OfficeFile) (p : ℕ) → IsSound file → p < periods_in file → IsWeek file.bands (week_of_period file p)
week-is file zero s l = s.week
week-is file (suc p) s l = let k : p < length file.later = omega arith in rw (read-at file.later p no-period k) (s.later p no-period k).week

-- ---- the latest period that has begun
abbrev begun : ℕ → List ℕ → ℕ
begun t ss = count_by (λ s. nat_le s t) ss

begun-cons : (t a : ℕ) (ss : List ℕ) → begun t (a ∷ ss) ≡ cond (nat_le a t) 1 0 + begun t ss
begun-cons t a ss = sum_by-cons (λ s. cond (nat_le s t) 1 0) a ss

rising-rest : (a : ℕ) (ss : List ℕ) → IsStrictlyIncreasing (a ∷ ss) → IsStrictlyIncreasing ss
rising-rest a ss h k l =
    let e : suc k + 1 ≡ suc (k + 1) = omega arith in
    let P : ℕ → Type 0 = λ n. get_or ss k 0 < get_or (a ∷ ss) n 0 in
    subst P e (h (suc k) (omega arith))

weightless : (n : ℕ) → 0 + n ≡ n
weightless n = omega arith

begun-none : (t a : ℕ) (ss : List ℕ) → IsStrictlyIncreasing (a ∷ ss) → t < a → begun t (a ∷ ss) ≡ 0
begun-none t a [] h l = begun-cons t a [] ∙ rw (lt-leb a t l) refl
begun-none t a (b ∷ ss) h l =
    let m : a < b = h 0 (omega arith) in
    begun-cons t a (b ∷ ss) ∙ rw (lt-leb a t l) (weightless (begun t (b ∷ ss)) ∙ begun-none t b ss (rising-rest a (b ∷ ss) h) (omega arith))

begun-more : (t a : ℕ) (ss : List ℕ) → a ≤ t → begun t (a ∷ ss) ≡ 1 + begun t ss
begun-more t a ss l = begun-cons t a ss ∙ rw (le-leb a t l) refl

-- one of a place below that number has begun
early : (t : ℕ) (ss : List ℕ) (i d : ℕ) → IsStrictlyIncreasing ss → i < begun t ss → get_or ss i d ≤ t
early t [] i d h l = absurd (omega arith)
early t (a ∷ ss) zero d h l =
    elim (cases_lt t a) [
      | inl k ↦ (let z = begun-none t a ss h k in absurd (omega (arith, l, z)))
      | inr k ↦ k
    ]
early t (a ∷ ss) (suc i) d h l =
    elim (cases_lt t a) [
      | inl k ↦ (let z = begun-none t a ss h k in absurd (omega (arith, l, z)))
      | inr k ↦ early t ss i d (rising-rest a ss h) (let z = begun-more t a ss k in omega (arith, l, z))
    ]

-- where one hasn't begun, none behind it has
begun-rest : (t a : ℕ) (ss : List ℕ) → IsStrictlyIncreasing (a ∷ ss) → t < a → begun t ss ≡ 0
begun-rest t a ss h l =
    let z = begun-none t a ss h l in
    let e = begun-cons t a ss in
    omega (arith, z, e)

-- and one that has begun has such a place
late : (t : ℕ) (ss : List ℕ) (i s : ℕ) → IsStrictlyIncreasing ss → slice_get ss i ≡ Some s → s ≤ t → i < begun t ss
late t [] i s h g l = absurd (none-some s g)
late t (a ∷ ss) zero s h g l =
    let e = same_Some a s g in
    let z = begun-more t a ss (rw e l) in
    omega (arith, z)
late t (a ∷ ss) (suc i) s h g l =
    let k : i < begun t ss = late t ss i s (rising-rest a ss h) g l in
    elim (cases_lt t a) [
      | inl b ↦ (let z = begun-rest t a ss h b in absurd (omega (arith, k, z)))
      | inr b ↦ (let z = begun-more t a ss b in omega (arith, k, z))
    ]

pub period-latest : PeriodIsTheLatest
unfolding period_at
period-latest file s t i =
    let starts = map (λ (p : PeriodText). p.start) file.later in
    let all : begun t (FIRST_SECOND ∷ starts) ≡ 1 + begun t starts = begun-more t FIRST_SECOND starts i.0 in
    let same : begun t starts ≡ count_by (λ (p : PeriodText). nat_le p.start t) file.later = count-map (λ (p : PeriodText). p.start) (λ n. nat_le n t) file.later in
    let few = count_by-le-length (λ (p : PeriodText). nat_le p.start t) file.later in
    let long : length starts ≡ length file.later = length-map file.later (λ (p : PeriodText). p.start) in
    let period = count_by (λ (p : PeriodText). nat_le p.start t) file.later in
    record {
      begun = (
        get_or (FIRST_SECOND ∷ starts) period 0,
        read-at (FIRST_SECOND ∷ starts) period 0 (omega (arith, few, long)),
        early t (FIRST_SECOND ∷ starts) period 0 s.in_time (omega (arith, all, same)),
      );
      latest = λ other start g l. (let k = late t (FIRST_SECOND ∷ starts) other start s.in_time g l in omega (arith, k, all, same));
    }
