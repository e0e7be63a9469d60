-- The points of a register are the rows of its readings that count.
use Rattle.std.proofs.Common.{◌≡◌, ◌==◌, ℕ, zero, suc, get_or, ◌+◌, ◌<◌, ◌≤◌, Bool, true, false, cond, Some, None, List, [], ◌∷◌, ◌++◌, take, All, refl, ap, sym, subst, ◌∙◌, inl, inr, arith}
use Rattle.std.proofs.lemmas.Bool.{cases_Bool, cases_lt, eqb-true, eq-eqb, ne_eqb}
use Rattle.std.proofs.lemmas.List.Elements.{All-append}
use Rattle.std.proofs.lemmas.Map.Keys.{IsStrictlyIncreasing-from_sorted}
use Rattle.std.specs.List.{AllByRecursion}
use Rattle.std.specs.List.Sorted.{IsStrictlySortedBy, IsStrictlyIncreasing}
use Rattle.std.specs.Ordering.{nat_cmp}
use Rattle.std.specs.declared.cmp.Ordering.TheVariants.{Less, Greater}
use Rattle.pw_obis.specs.declared.reference.Register.{Register}
use Rattle.pw_time.specs.Instants.{IsInstant}
use Rattle.pw_flow.specs.declared.plain.Point.{Point}
use Rattle.pw_flow.specs.Plain.{value_at}
use Rattle.pw_flow.specs.inner.Plain.{times_of}
use Rattle.pw_flow.proofs.Points.{option-cases}
use Rattle.pw_model.specs.declared.records.Entry.{Entry}
use Rattle.pw_model.specs.declared.records.ReadingRow.{ReadingRow}
use Rattle.pw_model.specs.Counting.{Member, is_withdrawn, Counts, contents_at, wh_of, point, reading_key}
use Rattle.pw_model.specs.Lists.{IsInOrder, reading_order, reading_numbers, reading_entry, IsReading, AreReadings}
use Rattle.pw_model.specs.inner.Search.{IsAt}
use Rattle.pw_model.proofs.Counting.{standing-part, counts-one, one-is_counting}
use Rattle.pw_model.proofs.Found.{wh-back}
use Rattle.pw_model.proofs.InOrder.{by-numbers, before-member}
use Rattle.pw_model.proofs.InKeyOrder.{cmp-less, cmp-greater}
use Rattle.pw_model.proofs.Places.{take-at}
use Rattle.pw_model.proofs.PlainReadings.{rows-one}

abbrev pub point_of : ReadingRow → Point
point_of row = record { at = row.instant; watt_hours = row.wh }

-- the points of the rows that count
abbrev pub counted : List ReadingRow → List Point
counted [] = []
counted (row ∷ rows) = cond row.counted (point_of row ∷ counted rows) (counted rows)

-- two rows that count at one instant are one
abbrev AreApart : List ReadingRow → Type 0
AreApart rows = (a b : ReadingRow) → Member a rows → Member b rows → a.counted ≡ true → b.counted ≡ true → a.instant ≡ b.instant → a ≡ b

-- ---- they rise
row-later : (a b : ReadingRow) → reading_order a b ≡ Less → a.instant ≤ b.instant
unfolding reading_numbers
row-later a b h =
    elim (cases_lt b.instant a.instant) [
      | inl l ↦ absurd (let n = rw (cmp-greater a.instant b.instant l) at h in let m : Greater ≡ Less = n in cc)
      | inr l ↦ l
    ]

row-apart : (a b : ReadingRow) → reading_order a b ≡ Less → a ≡ b → ⊥
row-apart a b h e =
    let P : ReadingRow → Type 0 = λ v. reading_order a v ≡ Less in
    (by-numbers reading_numbers).apart a (subst P (sym e) h)

all-later : (a : ReadingRow) (rows : List ReadingRow) → ((b : ReadingRow) → Member b rows → b.counted ≡ true → a.instant < b.instant) →
    AllByRecursion (λ y. nat_cmp a.instant y ≡ Less) (times_of (counted rows))
all-later a [] h = tt
all-later a (b ∷ rows) h =
    let r = all-later a rows (λ c m. h c (inr m)) in
    elim (cases_Bool b.counted) [ inl t ↦ rw t (cmp-less a.instant b.instant (h b (inl refl) t), r) | inr f ↦ rw f r ]

later-counted : (a b : ReadingRow) (rows : List ReadingRow) → IsInOrder reading_order (a ∷ rows) → AreApart (a ∷ rows) → a.counted ≡ true → Member b rows → b.counted ≡ true → a.instant < b.instant
later-counted a b rows up one t m c =
    let o : reading_order a b ≡ Less = before-member reading_order a b rows up.0 m in
    let l : a.instant ≤ b.instant = row-later a b o in
    elim (cases_lt a.instant b.instant) [
      | inl g ↦ g
      | inr g ↦ absurd (row-apart a b o (one a b (inl refl) (inr m) t c (omega arith)))
    ]

points-sorted : (rows : List ReadingRow) → IsInOrder reading_order rows → AreApart rows → IsStrictlySortedBy nat_cmp (times_of (counted rows))
unfolding IsStrictlySortedBy
points-sorted [] up one = tt
points-sorted (a ∷ rows) up one =
    let r = points-sorted rows up.1 (λ b c m n. one b c (inr m) (inr n)) in
    elim (cases_Bool a.counted) [
      | inl t ↦ rw t (all-later a rows (λ b m c. later-counted a b rows up one t m c), r)
      | inr f ↦ rw f r
    ]

-- ---- their values
value-some : (a : ReadingRow) (rows : List ReadingRow) → AreApart rows → Member a rows → a.counted ≡ true → value_at (counted rows) a.instant ≡ Some a.wh
unfolding value_at
value-some a [] one m t = absurd m
value-some a (b ∷ rows) one (inl e) t =
    let s : b.counted ≡ true = ap (λ (v : ReadingRow). v.counted) (sym e) ∙ t in
    let w : Some b.wh ≡ Some a.wh = ap (λ (v : ReadingRow). Some v.wh) (sym e) in
    rw (s, eq-eqb b.instant a.instant (ap (λ (v : ReadingRow). v.instant) (sym e))) w
value-some a (b ∷ rows) one (inr m) t =
    let r = value-some a rows (λ c d k l. one c d (inr k) (inr l)) m t in
    elim (cases_Bool b.counted) [
      | inr f ↦ rw f r
      | inl s ↦ elim (cases_Bool (b.instant == a.instant)) [
        | inl q ↦ (
            let same : b ≡ a = one b a (inl refl) (inr m) s t (eqb-true b.instant a.instant q) in
            rw (s, q) (ap (λ (v : ReadingRow). Some v.wh) same))
        | inr n ↦ rw (s, n) r
      ]
    ]

value-none : (t : ℕ) (rows : List ReadingRow) → ((a : ReadingRow) → Member a rows → a.counted ≡ true → a.instant ≡ t → ⊥) → value_at (counted rows) t ≡ None
unfolding value_at
value-none t [] h = refl
value-none t (b ∷ rows) h =
    let r = value-none t rows (λ a m. h a (inr m)) in
    elim (cases_Bool b.counted) [
      | inr f ↦ rw f r
      | inl s ↦ rw (s, ne_eqb b.instant t (h b (inl refl) s)) r
    ]

-- ---- of the readings of a register
readings-apart : (s : List Entry) (m : ℕ) (r : Register) (rows : List ReadingRow) → AreReadings s m r rows → AreApart rows
readings-apart s m r rows h a b k l t u e =
    let x : IsReading s m r a = (h.members a).0 k in
    let y : IsReading s m r b = (h.members b).0 l in
    let q : reading_key m r b.instant ≡ reading_key m r a.instant = ap (λ (v : ℕ). reading_key m r v) (sym e) in
    let same : reading_entry m r b.instant b.wh ≡ reading_entry m r a.instant a.wh = (x.counted.0 t).1 (reading_entry m r b.instant b.wh) (y.counted.0 u).0 q in
    rows-one s s m r a b (sym same) x.counted y.counted x.withdrawn y.withdrawn

pub points-rise : (s : List Entry) (m : ℕ) (r : Register) (rows : List ReadingRow) → AreReadings s m r rows → IsStrictlyIncreasing (times_of (counted rows))
points-rise s m r rows h = IsStrictlyIncreasing-from_sorted (times_of (counted rows)) (points-sorted rows h.rising (readings-apart s m r rows h))

pub points-told : (s : List Entry) (m : ℕ) (r : Register) (rows : List ReadingRow) (t : ℕ) → AreReadings s m r rows → value_at (counted rows) t ≡ point (contents_at s) m r t
points-told s m r rows t h =
    elim (option-cases (point (contents_at s) m r t)) [
      | inl n ↦ value-none t rows (λ a k c e. (
          let x : IsReading s m r a = (h.members a).0 k in
          let w : point (contents_at s) m r a.instant ≡ Some a.wh = ap wh_of (counts-one s (reading_entry m r a.instant a.wh) (x.counted.0 c)) in
          let z : Some a.wh ≡ None = sym w ∙ ap (λ (v : ℕ). point (contents_at s) m r v) e ∙ n in
          cc)) ∙ sym n
      | inr f ↦ (
          let c : Counts s (reading_entry m r t f.0) = (one-is_counting s (reading_entry m r t f.0) tt).0 (wh-back (contents_at s (reading_key m r t)) f.0 f.1) in
          let a : ReadingRow = record { instant = t; wh = f.0; counted = true; withdrawn = is_withdrawn s (reading_entry m r t f.0) } in
          let k : Member a rows = (h.members a).1 (record { held = standing-part s (reading_entry m r t f.0) c.0; counted = (λ x. c, λ x. refl); withdrawn = refl }) in
          value-some a rows (readings-apart s m r rows h) k refl ∙ sym f.1)
    ]

-- ---- row by row
counted-push : (rows : List ReadingRow) (a : ReadingRow) → counted (rows ++ a ∷ []) ≡ counted rows ++ cond a.counted (point_of a ∷ []) []
counted-push [] a = refl
counted-push (b ∷ rows) a =
    let r = counted-push rows a in
    elim (cases_Bool b.counted) [ inl t ↦ rw t (ap (λ l. point_of b ∷ l) r) | inr f ↦ rw f r ]

append-none : (ps : List Point) → ps ++ [] ≡ ps
append-none [] = refl
append-none (p ∷ ps) = ap (λ l. p ∷ l) (append-none ps)

pub counted-next : (rows : List ReadingRow) (i : ℕ) (a : ReadingRow) → IsAt rows i a → a.counted ≡ true → counted (take (i + 1) rows) ≡ counted (take i rows) ++ point_of a ∷ []
counted-next rows i a at t = ap counted (take-at rows i a at) ∙ (counted-push (take i rows) a ∙ ap (λ (b : Bool). counted (take i rows) ++ cond b (point_of a ∷ []) []) t)

pub counted-pass : (rows : List ReadingRow) (i : ℕ) (a : ReadingRow) → IsAt rows i a → a.counted ≡ false → counted (take (i + 1) rows) ≡ counted (take i rows)
counted-pass rows i a at f = ap counted (take-at rows i a at) ∙ (counted-push (take i rows) a ∙ ap (λ (b : Bool). counted (take i rows) ++ cond b (point_of a ∷ []) []) f) ∙ append-none (counted (take i rows))

one-instant : (q : Point) → IsInstant q.at → (k : ℕ) (d : Point) → k < 1 → IsInstant (get_or (q ∷ []) k d).at
one-instant q h zero d l = h
one-instant q h (suc k) d l = absurd (omega arith)

pub instants-more : (ps : List Point) (q : Point) → All (λ p. IsInstant p.at) ps → IsInstant q.at → All (λ p. IsInstant p.at) (ps ++ q ∷ [])
instants-more ps q h at = All-append (λ p. IsInstant p.at) ps (q ∷ []) h (λ k d i. one-instant q at k d i)
