-- Rows one behind another stand in order, and each second of a register in one of them at most.
use Rattle.std.proofs.Common.{◌≡◌, ◌==◌, ◌&&◌, ◌⊎◌, ℕ, ◌+◌, ◌<◌, ◌≤◌, nat_le, nat_lt, Bool, true, false, List, [], ◌∷◌, ◌++◌, map, Less, refl, ◌∙◌, inl, inr, arith}
use Rattle.std.proofs.lemmas.Bool.{and_parts, cases_Bool, cases_lt, eqb-true, leb-true, ltb-true}
use Rattle.pw_obis.specs.declared.reference.Register.{Register}
use Rattle.pw_tariff.specs.Office.{OfficeRules, register_place, same_register}
use Rattle.pw_model.specs.Counting.{Member}
use Rattle.pw_model.specs.Lists.{IsBeforeAll, IsInOrder}
use Rattle.pw_model.proofs.Places.{member-split}
use Rattle.pw_book.proofs.Segments.{first-less, then-less}
use Rattle.pw_months.specs.Between.{lies_in}
use Rattle.pw_months.specs.Why.{WhyRow, covers, over_rows, row_numbers, row_order, where_row}
use Rattle.pw_bills.specs.declared.reasons.WhyPiece.{WhyPiece}
use Rattle.pw_bills.specs.Why.{row_told}
use Rattle.pw_bills.specs.inner.Rows.{AreApart, IsUpTo}

-- ---- places
seconds-then : (q s i t j u : ℕ) → (q < i) ⊎ ((q ≡ i) × (s ≤ t)) → (i < j) ⊎ ((i ≡ j) × (t ≤ u)) → (q < j) ⊎ ((q ≡ j) × (s ≤ u))
seconds-then q s i t j u (inl l) (inl g) = inl (omega (arith, l, g))
seconds-then q s i t j u (inl l) (inr g) = let e = g.0 in inl (omega (arith, l, e))
seconds-then q s i t j u (inr h) (inl g) = let e = h.0 in inl (omega (arith, e, g))
seconds-then q s i t j u (inr h) (inr g) = let a = h.1 in let b = g.1 in inr (h.0 ∙ g.0, omega (arith, a, b))

pub up-then : (n q s m i t k j u : ℕ) → IsUpTo n q s m i t → IsUpTo m i t k j u → IsUpTo n q s k j u
up-then n q s m i t k j u (inl l) (inl g) = inl (omega (arith, l, g))
up-then n q s m i t k j u (inl l) (inr g) = let e = g.0 in inl (omega (arith, l, e))
up-then n q s m i t k j u (inr h) (inl g) = let e = h.0 in inl (omega (arith, e, g))
up-then n q s m i t k j u (inr h) (inr g) = inr (h.0 ∙ g.0, seconds-then q s i t j u h.1 g.1)

-- a second up to a second of a register stands before an earlier one, or between the two
pub split-second : (n q s m i t u : ℕ) → IsUpTo n q (s + 1) m i u → IsUpTo n q (s + 1) m i t ⊎ ((n ≡ m) × (q ≡ i) × (t ≤ s) × (s < u))
split-second n q s m i t u (inl l) = inl (inl l)
split-second n q s m i t u (inr h) = elim h.1 [
  | inl l ↦ inl (inr (h.0, inl l))
  | inr g ↦ elim (cases_lt s t) [
    | inl b ↦ inl (inr (h.0, inr (g.0, omega (arith, b))))
    | inr b ↦ (let c = g.1 in inr (h.0, g.0, b, omega (arith, c)))
  ]
]

-- up to the next register: before a second of this one, or from there on
pub split-register : (n q s m i t : ℕ) → IsUpTo n q (s + 1) m (i + 1) 0 → IsUpTo n q (s + 1) m i t ⊎ ((n ≡ m) × (q ≡ i) × (t ≤ s))
split-register n q s m i t (inl l) = inl (inl l)
split-register n q s m i t (inr h) = elim h.1 [
  | inl l ↦ elim (cases_lt q i) [
    | inl c ↦ inl (inr (h.0, inl c))
    | inr c ↦ (
        let e : q ≡ i = omega (arith, l, c) in
        elim (cases_lt s t) [ inl b ↦ inl (inr (h.0, inr (e, omega (arith, b)))) | inr b ↦ inr (h.0, e, b) ])
  ]
  | inr g ↦ (let c = g.1 in absurd (omega (arith, c)))
]

-- up to the next meter: before all of this one, or of it
pub split-meter : (n q s m : ℕ) → IsUpTo n q (s + 1) (m + 1) 0 0 → IsUpTo n q (s + 1) m 0 0 ⊎ (n ≡ m)
split-meter n q s m (inl l) = elim (cases_lt n m) [ inl c ↦ inl (inl c) | inr c ↦ inr (omega (arith, l, c)) ]
split-meter n q s m (inr h) = elim h.1 [
  | inl l ↦ absurd (omega (arith, l))
  | inr g ↦ (let c = g.1 in absurd (omega (arith, c)))
]

-- six registers are all
pub all-registers : (n q s m : ℕ) → q < 6 → IsUpTo n q (s + 1) (m + 1) 0 0 → IsUpTo n q (s + 1) m 6 0
all-registers n q s m b h = elim (split-meter n q s m h) [
  | inl o ↦ up-then n q (s + 1) m 0 0 m 6 0 o (inr (refl, inl (omega arith)))
  | inr e ↦ inr (e, inl b)
]

-- ---- in order
row-less : (v w : WhyRow) → IsUpTo v.meter (register_place v.register) v.until w.meter (register_place w.register) w.begin → v.begin < v.until → row_order v w ≡ Less
unfolding row_numbers
row-less v w (inl l) b = first-less v.meter w.meter (register_place v.register ∷ v.begin ∷ []) (register_place w.register ∷ w.begin ∷ []) l
row-less v w (inr h) b =
    then-less v.meter w.meter (register_place v.register ∷ v.begin ∷ []) (register_place w.register ∷ w.begin ∷ []) h.0 (elim h.1 [
      | inl l ↦ first-less (register_place v.register) (register_place w.register) (v.begin ∷ []) (w.begin ∷ []) l
      | inr g ↦ (
          let c = g.1 in
          then-less (register_place v.register) (register_place w.register) (v.begin ∷ []) (w.begin ∷ []) g.0 (first-less v.begin w.begin [] [] (omega (arith, b, c))))
    ])

-- what covers a second
covered : (m : ℕ) (r : Register) (t : ℕ) (row : WhyRow) → covers m r t row ≡ true → (row.meter ≡ m) × (register_place row.register ≡ register_place r) × (row.begin ≤ t) × (t < row.until)
covered m r t row h =
    let one = and_parts ((row.meter == m) && same_register row.register r) (lies_in row.begin row.until t) h in
    let two = and_parts (row.meter == m) (same_register row.register r) one.0 in
    let three = and_parts (nat_le row.begin t) (nat_lt t row.until) one.1 in
    (eqb-true row.meter m two.0, eqb-true (register_place row.register) (register_place r) two.1, leb-true row.begin t three.0, ltb-true t row.until three.1)

not-both : (m : ℕ) (r : Register) (t : ℕ) (v w : WhyRow) → IsUpTo v.meter (register_place v.register) v.until w.meter (register_place w.register) w.begin → covers m r t v ≡ true → covers m r t w ≡ true → ⊥
not-both m r t v w h y z =
    let a = covered m r t v y in
    let b = covered m r t w z in
    let vm = a.0 in
    let wm = b.0 in
    let vr = a.1 in
    let wr = b.1 in
    let vt = a.3 in
    let wt = b.2 in
    elim h [
      | inl l ↦ omega (arith, l, vm, wm)
      | inr g ↦ elim g.1 [
        | inl l ↦ omega (arith, l, vr, wr)
        | inr k ↦ (let e = k.1 in omega (arith, e, vt, wt))
      ]
    ]

module _ (office : OfficeRules) where
  before-rows : (v : WhyPiece) (ws : List WhyPiece) → ((w : WhyPiece) → Member w ws → IsUpTo v.meter.0 (register_place v.register) v.piece.until w.meter.0 (register_place w.register) w.piece.begin) →
      v.piece.begin < v.piece.until → IsBeforeAll row_order (row_told office v) (map (row_told office) ws)
  before-rows v [] h b = tt
  before-rows v (w ∷ ws) h b = (row-less (row_told office v) (row_told office w) (h w (inl refl)) b, before-rows v ws (λ u m. h u (inr m)) b)

  pub apart-in_order : (ws : List WhyPiece) → ((w : WhyPiece) → Member w ws → w.piece.begin < w.piece.until) → AreApart ws → IsInOrder row_order (map (row_told office) ws)
  apart-in_order [] b h = tt
  apart-in_order (w ∷ ws) b h = (before-rows w ws h.0 (b w (inl refl)), apart-in_order ws (λ u m. b u (inr m)) h.1)

  -- ---- once
  none-covered : (p : WhyRow → Bool) (ws : List WhyPiece) → ((w : WhyPiece) → Member w ws → p (row_told office w) ≡ false) → over_rows (where_row p (λ row. 1)) (map (row_told office) ws) ≡ 0
  none-covered p [] h = refl
  none-covered p (w ∷ ws) h =
      let e : p (row_told office w) ≡ false = h w (inl refl) in
      let r = none-covered p ws (λ u m. h u (inr m)) in
      rw e (omega (arith, r))

  pub apart-once : (m : ℕ) (r : Register) (t : ℕ) (ws : List WhyPiece) → AreApart ws → over_rows (where_row (covers m r t) (λ row. 1)) (map (row_told office) ws) ≤ 1
  apart-once m r t [] h = omega arith
  apart-once m r t (w ∷ ws) h = elim (cases_Bool (covers m r t (row_told office w))) [
    | inr n ↦ (let k = apart-once m r t ws h.1 in rw n (omega (arith, k)))
    | inl y ↦ (
        let k = none-covered (covers m r t) ws (λ u i. elim (cases_Bool (covers m r t (row_told office u))) [
          | inr f ↦ f
          | inl z ↦ absurd (not-both m r t (row_told office w) (row_told office u) (h.0 u i) y z)
        ]) in
        rw y (omega (arith, k)))
  ]

-- ---- one list behind another
pub apart-joined : (vs ws : List WhyPiece) → AreApart vs → AreApart ws →
    ((v w : WhyPiece) → Member v vs → Member w ws → IsUpTo v.meter.0 (register_place v.register) v.piece.until w.meter.0 (register_place w.register) w.piece.begin) → AreApart (vs ++ ws)
apart-joined [] ws a b h = b
apart-joined (v ∷ vs) ws a b h = (
  λ w m. elim (member-split w vs ws m) [ inl k ↦ a.0 w k | inr k ↦ h v w (inl refl) k ],
  apart-joined vs ws a.1 b (λ u w i k. h u w (inr i) k),
)
