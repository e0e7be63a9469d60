-- Where a new office file adopts the records of the old one, the two agree on what these ask for.
use Rattle.std.proofs.Common.{◌≡◌, ℕ, zero, suc, ◌+◌, ◌/◌, ◌%◌, ◌<◌, ◌≤◌, nat_le, Bool, true, false, cond, Option, Some, None, List, [], ◌∷◌, length, slice_get, refl, ap, sym, ◌∙◌, subst, inl, inr, pos, arith, ◌⊎◌}
use Rattle.std.specs.Prelude.{count_by}
use Rattle.std.proofs.lemmas.Bool.{cases_eq, cases_lt, lt-leb}
use Rattle.std.proofs.lemmas.List.{length-map}
use Rattle.std.proofs.lemmas.List.Sums.{sum_by-cons}
use Rattle.jiff_core.proofs.CalendarLemmas.{weekday_number_bound}
use Rattle.pw_obis.specs.declared.reference.Register.{Register}
use Rattle.pw_time.specs.Summer.{local_weekday, local_hour, local_second}
use Rattle.pw_tariff.specs.declared.ids.Direction.{Direction}
use Rattle.pw_tariff.specs.Office.{OfficeFile, PeriodText, IsSound, periods_in, period_at, period_starts, band_at, counts_at, price_at}
use Rattle.pw_tariff.proofs.Answered.{bands-of}
use Rattle.pw_tariff.proofs.Later.{later-start}
use Rattle.pw_moving.specs.declared.change.Listed.{Listed}
use Rattle.pw_moving.specs.declared.change.Listed.TheVariants.{Accounts, Meters, Bands}
use Rattle.pw_moving.specs.declared.change.Change.TheVariants as change
use Rattle.pw_moving.specs.declared.change.Respelling.{Respelling}
use Rattle.pw_moving.specs.Names.{names_in}
use Rattle.pw_moving.specs.Renaming.{Offices}
use Rattle.pw_moving.specs.Changes.{AreUnlike, HaveSameWeek, band_of_hour}
use Rattle.pw_moving.specs.Adopting.{IsBehind, Adopts}
use Rattle.pw_moving.specs.Agreeing.{IsBefore}
use Rattle.pw_moving.specs.Laws.{AdoptedOfficesAgree}
use Rattle.pw_moving.proofs.Placed.{within, ids-many}

-- ---- what is no change is the same
-- numbers and answers that aren't unlike
same-number : (x y : ℕ) → ((x ≡ y → ⊥) → ⊥) → x ≡ y
same-number x y h = elim (cases_eq x y) [ inl e ↦ e | inr d ↦ absurd (h d) ]

same-answer : (x y : Bool) → ((x ≡ y → ⊥) → ⊥) → x ≡ y
same-answer true true h = refl
same-answer false false h = refl
same-answer true false h = absurd (h (λ e. cc))
same-answer false true h = absurd (h (λ e. cc))

-- of what can be told place by place: all places, or one
all-or_one : (P : ℕ → Type 0) → ((i : ℕ) → P i ⊎ (P i → ⊥)) → (n : ℕ) → ((i : ℕ) → i < n → P i) ⊎ ((i : ℕ) × (i < n) × (P i → ⊥))
all-or_one P known zero = inl (λ i l. absurd (omega (arith, l)))
all-or_one P known (suc n) = elim (known n) [
  | inr d ↦ inr (n, omega arith, d)
  | inl p ↦ elim (all-or_one P known n) [
    | inr r ↦ inr (r.0, (let l = r.1 in omega (arith, l)), r.2)
    | inl all ↦ inl (λ i l. elim (cases_eq i n) [ inl e ↦ subst P (sym e) p | inr d ↦ all i (omega (arith, l, d)) ])
  ]
]

known-all : (P : ℕ → Type 0) → ((i : ℕ) → P i ⊎ (P i → ⊥)) → (n : ℕ) → ((i : ℕ) → i < n → P i) ⊎ (((i : ℕ) → i < n → P i) → ⊥)
known-all P known n = elim (all-or_one P known n) [ inl all ↦ inl all | inr r ↦ inr (λ all. r.2 (all r.0 r.1)) ]

-- whether two weeks have the same bands can be told
abbrev AreSameHours : Offices → ℕ → ℕ → Type 0
AreSameHours o p day = (hour : ℕ) → hour < 24 → band_of_hour o.old p day hour ≡ band_of_hour o.new p day hour

same-week : (o : Offices) (p : ℕ) → ((HaveSameWeek o p → ⊥) → ⊥) → HaveSameWeek o p
same-week o p h =
    elim (known-all (AreSameHours o p) (λ day. known-all (λ hour. band_of_hour o.old p day hour ≡ band_of_hour o.new p day hour) (λ hour. cases_eq (band_of_hour o.old p day hour) (band_of_hour o.new p day hour)) 24) 7) [
      | inl all ↦ (λ day hour d l. all day d hour l)
      | inr none ↦ absurd (h (λ all. none (λ day d hour l. all day hour d l)))
    ]

-- ---- lists that are no shorter
longer : (list : Listed) (words : List Respelling) (last : Option ℕ) (o : Offices) → Adopts words last o → length (names_in list o.old) ≤ length (names_in list o.new)
longer list words last o h = elim (cases_lt (length (names_in list o.new)) (length (names_in list o.old))) [
  | inl l ↦ absurd (h (change.Gone list (length (names_in list o.new))) (omega arith, l))
  | inr l ↦ l
]

no-band_more : (words : List Respelling) (last : Option ℕ) (o : Offices) → Adopts words last o → length (names_in Bands o.new) ≤ length (names_in Bands o.old)
no-band_more words last o h = elim (cases_lt (length (names_in Bands o.old)) (length (names_in Bands o.new))) [
  | inl l ↦ absurd (h (change.Added Bands (length (names_in Bands o.old))) (omega arith, l))
  | inr l ↦ l
]

letters-many : (file : OfficeFile) → length (names_in Bands file) ≡ length file.bands
letters-many file = length-map file.bands (λ b. b.name ∷ [])

bands-many : (words : List Respelling) (last : Option ℕ) (o : Offices) → Adopts words last o → length o.old.bands ≡ length o.new.bands
bands-many words last o h =
    let a = longer Bands words last o h in
    let b = no-band_more words last o h in
    let c = letters-many o.old in
    let d = letters-many o.new in
    omega (arith, a, b, c, d)

meters-many : (words : List Respelling) (last : Option ℕ) (o : Offices) → Adopts words last o → length o.old.meters ≤ length o.new.meters
meters-many words last o h =
    let a = longer Meters words last o h in
    let c = ids-many o.old in
    let d = ids-many o.new in
    omega (arith, a, c, d)

periods-many : (words : List Respelling) (last : Option ℕ) (o : Offices) → Adopts words last o → periods_in o.old ≤ periods_in o.new
periods-many words last o h = elim (cases_lt (periods_in o.new) (periods_in o.old)) [
  | inl l ↦ absurd (h (change.PeriodGone (record { 0 = periods_in o.new })) (omega arith, l))
  | inr l ↦ l
]

-- ---- what both have
counts-same : (words : List Respelling) (last : Option ℕ) (o : Offices) → Adopts words last o → (m : ℕ) (r : Register) → m < length o.old.meters → counts_at o.old m r ≡ counts_at o.new m r
counts-same words last o h m r l =
    let n = meters-many words last o h in
    same-answer (counts_at o.old m r) (counts_at o.new m r) (λ d. h (change.Register (record { 0 = m }) r) ((l, omega (arith, l, n)), d))

price-same : (words : List Respelling) (last : Option ℕ) (o : Offices) → Adopts words last o → (p n : ℕ) (d : Direction) → p < periods_in o.old → n < length o.old.bands → price_at o.old p n d ≡ price_at o.new p n d
price-same words last o h p n d l k =
    let i = periods-many words last o h in
    let j = bands-many words last o h in
    same-number (price_at o.old p n d) (price_at o.new p n d) (λ x. h (change.Price (record { 0 = p }) (record { 0 = n }) d) (((l, omega (arith, l, i)), (k, omega (arith, k, j))), x))

week-same : (words : List Respelling) (last : Option ℕ) (o : Offices) → Adopts words last o → (p : ℕ) → p < periods_in o.old → HaveSameWeek o p
week-same words last o h p l =
    let i = periods-many words last o h in
    same-week o p (λ x. h (change.Week (record { 0 = p })) ((l, omega (arith, l, i)), x))

-- ---- periods
-- the start of a later period, as the list of all starts has it
start-listed : (file : OfficeFile) (k : ℕ) (p : PeriodText) → slice_get file.later k ≡ Some p → slice_get (period_starts file) (suc k) ≡ Some p.start
start-listed file k p e = later-start file (suc k) k p refl e

start-same : (words : List Respelling) (last : Option ℕ) (o : Offices) → Adopts words last o → (k : ℕ) (p q : PeriodText) → slice_get o.old.later k ≡ Some p → slice_get o.new.later k ≡ Some q → p.start ≡ q.start
start-same words last o h k p q e f = same-number p.start q.start (λ d.
    let D : Option ℕ → Option ℕ → Type 0 = λ x y. AreUnlike x y in
    let a : AreUnlike (Some p.start) (slice_get (period_starts o.new) (suc k)) = subst (D (Some p.start)) (sym (start-listed o.new k q f)) d in
    let b : AreUnlike (slice_get (period_starts o.old) (suc k)) (slice_get (period_starts o.new) (suc k))
    = subst (λ x. D x (slice_get (period_starts o.new) (suc k))) (sym (start-listed o.old k p e)) a in
    h (change.Start (record { 0 = suc k })) b)

-- a period that the new file alone has begins behind the last reading
new-behind : (words : List Respelling) (last : Option ℕ) (o : Offices) → Adopts words last o → (k : ℕ) (q : PeriodText) → length o.old.later ≤ k → slice_get o.new.later k ≡ Some q → IsBehind last q.start
new-behind words last o h k q l f =
    let n : k < length o.new.later = within o.new.later k q f in
    h (change.NewPeriod (record { 0 = suc k })) (omega (arith, l), omega (arith, n)) q.start (start-listed o.new k q f)

abbrev begun : ℕ → List PeriodText → ℕ
begun t ps = count_by (λ p. nat_le p.start t) ps

begun-cons : (t : ℕ) (x : PeriodText) (ps : List PeriodText) → begun t (x ∷ ps) ≡ cond (nat_le x.start t) 1 0 + begun t ps
begun-cons t x ps = sum_by-cons (λ (p : PeriodText). cond (nat_le p.start t) 1 0) x ps

none-begun : (t : ℕ) (ps : List PeriodText) → ((k : ℕ) (q : PeriodText) → slice_get ps k ≡ Some q → t < q.start) → begun t ps ≡ 0
none-begun t [] h = refl
none-begun t (q ∷ ps) h =
    let e : nat_le q.start t ≡ false = lt-leb q.start t (h 0 q refl) in
    let c : begun t (q ∷ ps) ≡ 0 + begun t ps = begun-cons t q ps ∙ ap (λ (b : Bool). cond b 1 0 + begun t ps) e in
    let r : begun t ps ≡ 0 = none-begun t ps (λ k x i. h (suc k) x i) in
    omega (arith, c, r)

begun-same : (t : ℕ) (ps qs : List PeriodText) → length ps ≤ length qs → ((k : ℕ) (p q : PeriodText) → slice_get ps k ≡ Some p → slice_get qs k ≡ Some q → p.start ≡ q.start) →
    ((k : ℕ) (q : PeriodText) → length ps ≤ k → slice_get qs k ≡ Some q → t < q.start) → begun t ps ≡ begun t qs
begun-same t [] qs l same new = sym (none-begun t qs (λ k q e. new k q (omega arith) e))
begun-same t (p ∷ ps) [] l same new = absurd (omega (arith, l))
begun-same t (p ∷ ps) (q ∷ qs) l same new =
    let e : p.start ≡ q.start = same 0 p q refl refl in
    let r : begun t ps ≡ begun t qs = begun-same t ps qs (omega (arith, l)) (λ k x y i j. same (suc k) x y i j) (λ k x m i. new (suc k) x (omega (arith, m)) i) in
    begun-cons t p ps ∙ (λ i. cond (nat_le (e i) t) 1 0 + r i) ∙ sym (begun-cons t q qs)

-- a second before the last reading is before all that stands behind that
before-all : (last : Option ℕ) (t u : ℕ) → IsBefore last t → IsBehind last u → t < u
before-all None t u b h = absurd b.2
before-all (Some z) t u b h = let l : t < b.0 = b.1 in let k : b.0 ≤ z = b.2 in let m : z < u = h in omega (arith, l, k, m)

period-same : (words : List Respelling) (last : Option ℕ) (o : Offices) → Adopts words last o → (t : ℕ) → IsBefore last t → period_at o.old t ≡ period_at o.new t
unfolding period_at
period-same words last o h t b =
    let n = periods-many words last o h in
    begun-same t o.old.later o.new.later (omega (arith, n)) (start-same words last o h) (λ k q l e. before-all last t q.start b (new-behind words last o h k q l e))

hour-bound : (n : ℕ) → n % 86400 / 3600 < 24
hour-bound n = omega arith

band-same : (words : List Respelling) (last : Option ℕ) (o : Offices) → IsSound o.old → Adopts words last o → (t : ℕ) → IsBefore last t → band_at o.old t ≡ band_at o.new t
unfolding band_at
band-same words last o sound h t b =
    let p : period_at o.old t ≡ period_at o.new t = period-same words last o h t b in
    let l : period_at o.old t < periods_in o.old = (bands-of o.old sound t).period in
    let w : local_weekday t < 7 = weekday_number_bound (pos (local_second t / 86400)) in
    week-same words last o h (period_at o.old t) l (local_weekday t) (local_hour t) w (hour-bound (local_second t))
    ∙ ap (λ k. band_of_hour o.new k (local_weekday t) (local_hour t)) p

pub adopted-agree : AdoptedOfficesAgree
adopted-agree words at_last o s old_sound new_sound up h = record {
  accounts = longer Accounts words at_last o h;
  meters = meters-many words at_last o h;
  bands = bands-many words at_last o h;
  periods = periods-many words at_last o h;
  end = refl;
  counts = counts-same words at_last o h;
  price = price-same words at_last o h;
  last = at_last;
  readings = up;
  band = band-same words at_last o old_sound h;
  period = period-same words at_last o h;
}
