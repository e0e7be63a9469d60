-- The worked rows are right.
use Rattle.std.proofs.Common.{◌≡◌, ◌⊎◌, ℕ, zero, suc, ◌<◌, ◌≤◌, nat_le, nat_lt, ◌-◌, ◌*◌, Bool, true, false, not, ◌&&◌, ◌||◌, ◌==◌, Option, Some, None, is_some, refl, sym, ap, subst, ◌∙◌, arith, inl, inr}
use Rattle.std.proofs.lemmas.Bool.{agree_below_at, and_parts, cases_Bool, cases_eq, le-ltb, leb-true, lt-ltb, ltb-true, ne_eqb, or_cases, true≢false}
use Rattle.pw_obis.specs.declared.reference.Register.{Register}
use Rattle.pw_obis.specs.declared.reference.Register.TheVariants.{I0, I1, I2, E0, E1, E2}
use Rattle.pw_tariff.specs.declared.ids.AccountId.{AccountId}
use Rattle.pw_tariff.specs.declared.ids.Direction.TheVariants.{Import}
use Rattle.pw_tariff.specs.Owners.{same_owner}
use Rattle.pw_tariff.specs.Office.{same_register}
use Rattle.pw_flow.specs.Time.{last, next}
use Rattle.pw_flow.specs.Flow.{AreNeighbours, flow, level, pair_flow}
use Rattle.pw_model.specs.Same.{content_numbers, key_numbers}
use Rattle.pw_model.specs.Counting.{Member, contents_among, contents_at, point, standing}
use Rattle.pw_model.specs.Energy.{account, owner_at}
use Rattle.pw_months.specs.Between.{lies_in}
use Rattle.pw_months.specs.Why.{IsOfClass, IsWhyRow, WhyRow, covers, over_rows, row_numbers, where_row}
use Rattle.pw_months.specs.Worked.{WorkedWhy, only_i1, worked_office, worked_price, worked_records, worked_row, worked_rows}

none-since : {A : Type 0} (o : Option A) → is_some o ≡ false → o ≡ None
none-since None e = refl
none-since (Some a) e = absurd (true≢false e)

stands : ℕ → Bool
stands s = is_some (point (contents_at worked_records) 0 I1 s)

at-two : ℕ → Bool
at-two s = (s == 2) || (s == 12)

nothing-between : (s : ℕ) → 2 < s → s < 12 → point (contents_at worked_records) 0 I1 s ≡ None
unfolding stands at-two content_numbers key_numbers contents_among contents_at standing
nothing-between s a b =
    let e : stands s ≡ at-two s = agree_below_at stands at-two 12 s refl b in
    let f : (s == 2) ≡ false = ne_eqb s 2 (λ i. omega arith) in
    let g : (s == 12) ≡ false = ne_eqb s 12 (λ i. omega arith) in
    none-since (point (contents_at worked_records) 0 I1 s) (e ∙ rw (f, g) refl)

neighbours : AreNeighbours (point (contents_at worked_records) 0 I1) 2 100 12 121
unfolding content_numbers key_numbers contents_among contents_at standing
neighbours = record { earlier = omega arith; first = refl; second = refl; between = nothing-between }

-- ---- owners and periods
owned : ℕ → Bool
owned t = same_owner (owner_at (contents_at worked_records) 0 t) (Some (account 0))

before-nine : ℕ → Bool
before-nine t = nat_lt t 9

same-to : (o : Option AccountId) → same_owner o (Some (account 0)) ≡ true → o ≡ Some (account 0)
same-to None h = absurd (true≢false (sym h))
same-to (Some c) h = let e : c.0 ≡ 0 = eqb-zero c.0 h in λ i. Some (record { 0 = e i })
  where
    eqb-zero : (n : ℕ) → (n == 0) ≡ true → n ≡ 0
    eqb-zero n e = elim (cases_eq n 0) [ inl i ↦ i | inr d ↦ absurd (true≢false (sym e ∙ ne_eqb n 0 d)) ]

owner-before_nine : (t : ℕ) → t < 9 → owner_at (contents_at worked_records) 0 t ≡ Some (account 0)
unfolding owned before-nine last owner_at content_numbers key_numbers contents_among contents_at standing
owner-before_nine t b =
    let l : t < 24 = omega arith in
    let e : owned t ≡ before-nine t = agree_below_at owned before-nine 24 t refl l in
    same-to (owner_at (contents_at worked_records) 0 t) (e ∙ lt-ltb t 9 b)

apart : (a b : ℕ) → a ≡ b → a < b → ⊥
apart a b e l = omega arith

abbrev number : Option AccountId → ℕ
number None = 0
number (Some a) = a.0

class-before_nine : (row : WhyRow) (t : ℕ) → row.meter ≡ 0 → row.band ≡ 0 → t < 9 →
    worked_office.period t ≡ row.period →
    IsOfClass worked_office (contents_at worked_records) 0 row t
class-before_nine row t m z b p =
    let P : ℕ → Type 0 = λ v. owner_at (contents_at worked_records) v t ≡ Some (account 0) in
    let low : nat_lt t 10 ≡ true = lt-ltb t 10 (omega arith) in
    let band : worked_office.band t ≡ 0 = rw low refl in
    (subst P (sym m) (owner-before_nine t b), p, band ∙ sym z)

-- second 9 is the other account's
other-owner : owner_at (contents_at worked_records) 0 9 ≡ Some (account 0) → ⊥
unfolding last owner_at content_numbers key_numbers contents_among contents_at standing
other-owner k = let e : Some (account 1) ≡ Some (account 0) = k in apart 0 1 (sym (ap number e)) (omega arith)

-- a piece of this pair before second 9
abbrev IsRow : WhyRow → Type 0
IsRow = IsWhyRow worked_office (contents_at worked_records) 0 6 12

-- a second of another account, period or band
abbrev OfAnother : ℕ → ℕ → Type 0
OfAnother period t =
    ¬ ((owner_at (contents_at worked_records) 0 t ≡ Some (account 0)) × (worked_office.period t ≡ period) × (worked_office.band t ≡ 0))

row-of : (begin until period wh nano : ℕ) →
    6 ≤ begin → begin < until → until ≤ 9 → ((t : ℕ) → begin ≤ t → t < until → worked_office.period t ≡ period) →
    (begin ≡ 6) ⊎ OfAnother period (begin - 1) → OfAnother period until → 0 < wh →
    wh ≡ level 2 100 12 121 until - level 2 100 12 121 begin → nano ≡ worked_price period 0 Import * wh →
    IsRow (worked_row begin until period wh nano)
row-of begin until period wh nano a b c same first last some given cost = record {
  meter = omega arith;
  counts = refl;
  neighbours = neighbours;
  rising = omega arith;
  seen = omega arith;
  piece = (omega arith, b, omega arith);
  within = (a, omega arith);
  of_class = λ t x y. class-before_nine (worked_row begin until period wh nano) t refl refl (omega arith) (same t x y);
  first = inr first;
  last = inr (inr last);
  something = some;
  given = given;
  cost = cost;
}

first-row : IsRow (worked_row 6 8 0 4 800_000)
unfolding level
first-row =
    row-of 6 8 0 4 800_000 (omega arith) (omega arith) (omega arith)
    (λ t a b. let e : nat_lt t 8 ≡ true = lt-ltb t 8 b in rw e refl)
    (inl refl) (λ k. let e : 1 ≡ 0 = k.1 in apart 0 1 (sym e) (omega arith)) (omega arith) refl refl

second-row : IsRow (worked_row 8 9 1 2 500_000)
unfolding level
second-row =
    row-of 8 9 1 2 500_000 (omega arith) (omega arith) (omega arith)
    (λ t a b. let e : nat_lt t 8 ≡ false = le-ltb t 8 a in rw e refl)
    (inr (λ k. let e : 0 ≡ 1 = k.1 in apart 0 1 e (omega arith))) (λ k. other-owner k.0) (omega arith) refl refl

each : (row : WhyRow) → Member row worked_rows → IsRow row
each row (inl i) = let P : WhyRow → Type 0 = IsRow in subst P (sym i) first-row
each row (inr (inl i)) = let P : WhyRow → Type 0 = IsRow in subst P (sym i) second-row
each row (inr (inr k)) = absurd k

-- ---- each second once
once : (m : ℕ) (r : Register) (t : ℕ) → over_rows (where_row (covers m r t) (λ row. 1)) worked_rows ≤ 1
once m r t =
    elim (cases_Bool (((0 == m) && same_register I1 r) && lies_in 6 8 t)) [
      | inr e ↦ elim (cases_Bool (((0 == m) && same_register I1 r) && lies_in 8 9 t)) [
        | inr f ↦ rw (e, f) (omega arith)
        | inl f ↦ rw (e, f) (omega arith)
      ]
      | inl e ↦ elim (cases_Bool (((0 == m) && same_register I1 r) && lies_in 8 9 t)) [
        | inr f ↦ rw (e, f) (omega arith)
        | inl f ↦ (
            let a = and_parts ((0 == m) && same_register I1 r) (lies_in 6 8 t) e in
            let b = and_parts ((0 == m) && same_register I1 r) (lies_in 8 9 t) f in
            let c : t < 8 = ltb-true t 8 (and_parts (nat_le 6 t) (nat_lt t 8) a.1).1 in
            let d : 8 ≤ t = leb-true 8 t (and_parts (nat_le 8 t) (nat_lt t 9) b.1).0 in
            absurd (omega arith))
      ]
    ]

-- ---- each that carries something
told : ℕ → Bool
told t =
    (not (owned t) || nat_lt t 6)
    || ((flow (point (contents_at worked_records) 0 I1) 24 t == 0) || (lies_in 6 8 t || lies_in 8 9 t))

yes : ℕ → Bool
yes t = true

all-told : (t : ℕ) → t < 24 → told t ≡ true
unfolding told yes owned flow pair_flow level last next owner_at content_numbers key_numbers contents_among contents_at standing
all-told t l = agree_below_at told yes 24 t refl l

nothing-flows : (n : ℕ) → (n == 0) ≡ true → n ≡ 0
nothing-flows n e = elim (cases_eq n 0) [ inl i ↦ i | inr d ↦ absurd (true≢false (sym e ∙ ne_eqb n 0 d)) ]

abbrev IsTold : ℕ → Register → ℕ → Type 0
IsTold m r t =
    (flow (point (contents_at worked_records) m r) 24 t ≡ 0)
    ⊎ ((row : WhyRow) × Member row worked_rows × (covers m r t row ≡ true))

of-meter : (t : ℕ) → 6 ≤ t → t < 24 → owner_at (contents_at worked_records) 0 t ≡ Some (account 0) → IsTold 0 I1 t
unfolding told owned
of-meter t x y o =
    let his : owned t ≡ true = rw o refl in
    let late : nat_lt t 6 ≡ false = le-ltb t 6 x in
    let none : (not (owned t) || nat_lt t 6) ≡ false = rw (his, late) refl in
    let carried : Bool = flow (point (contents_at worked_records) 0 I1) 24 t == 0 in
    elim (or_cases (not (owned t) || nat_lt t 6) (carried || (lies_in 6 8 t || lies_in 8 9 t)) (all-told t y)) [
      | inl n ↦ absurd (true≢false (sym n ∙ none))
      | inr k ↦ elim (or_cases carried (lies_in 6 8 t || lies_in 8 9 t) k) [
        | inl f ↦ inl (nothing-flows (flow (point (contents_at worked_records) 0 I1) 24 t) f)
        | inr g ↦ elim (or_cases (lies_in 6 8 t) (lies_in 8 9 t) g) [
          | inl h ↦ inr (worked_row 6 8 0 4 800_000, inl refl, h)
          | inr h ↦ inr (worked_row 8 9 1 2 500_000, inr (inl refl), h)
        ]
      ]
    ]

all : (m : ℕ) (r : Register) (t : ℕ) → m < 1 → only_i1 r ≡ true → 6 ≤ t → t < 12 →
    owner_at (contents_at worked_records) m t ≡ Some (account 0) → IsTold m r t
all (suc m) r t l c x y o = absurd (omega arith)
all zero I0 t l c x y o = absurd (true≢false (sym c))
all zero I2 t l c x y o = absurd (true≢false (sym c))
all zero E0 t l c x y o = absurd (true≢false (sym c))
all zero E1 t l c x y o = absurd (true≢false (sym c))
all zero E2 t l c x y o = absurd (true≢false (sym c))
all zero I1 t l c x y o = of-meter t x (omega arith) o

pub worked-why : WorkedWhy
unfolding row_numbers
worked-why = record { in_order = ((refl, tt), (tt, tt)); each = each; once = once; all = all }
