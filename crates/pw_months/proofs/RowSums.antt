-- The rows of why add up to the bill.
use Rattle.std.proofs.Common.{◌≡◌, ℕ, ◌+◌, ◌-◌, ◌*◌, ◌<◌, ◌≤◌, nat_le, nat_lt, Bool, true, false, cond, ◌&&◌, ◌==◌, Option, Some, None, List, [], ◌∷◌, refl, sym, ap, subst, ◌∙◌, arith, inl, inr, zero-add, mul-add, mul-zero}
use Rattle.std.proofs.lemmas.Bool.{cases_Bool, cases_lt, eq-eqb, eqb-true, le-leb, leb-true, lt-leb, lt-ltb, ltb-true, le-ltb, and_parts, true≢false}
use Rattle.pw_obis.specs.declared.reference.Register.{Register}
use Rattle.pw_obis.specs.declared.reference.Register.TheVariants.{I0, I1, I2, E0, E1, E2}
use Rattle.pw_tariff.specs.declared.ids.AccountId.{AccountId}
use Rattle.pw_tariff.specs.declared.ids.Direction.{Direction}
use Rattle.pw_tariff.specs.declared.ids.Direction.TheVariants.{Import, Export}
use Rattle.pw_tariff.specs.Owners.{same_owner}
use Rattle.pw_tariff.specs.Office.{OfficeRules, same_register, register_place}
use Rattle.pw_flow.specs.Time.{sum_over}
use Rattle.pw_flow.specs.Flow.{flow}
use Rattle.pw_flow.specs.Energy.{kept, register_energy}
use Rattle.pw_flow.proofs.Sums.{kept-nothing, sum-same, sum-none, sum-split}
use Rattle.pw_flow.proofs.Kept.{kept-all, kept-none}
use Rattle.pw_flow.proofs.Shares.{sum-add, sum-pick}
use Rattle.pw_flow.proofs.Neighbours.{pieces-of}
use Rattle.pw_model.specs.declared.records.Key.{Key}
use Rattle.pw_model.specs.declared.records.Contents.{Contents}
use Rattle.pw_model.proofs.Exchange.{sum-cond, sum-one}
use Rattle.pw_model.proofs.Same.{register-one}
use Rattle.pw_model.specs.Same.{direction_of, same_direction}
use Rattle.pw_model.specs.Counting.{Member, contents_at, point}
use Rattle.pw_model.specs.Energy.{account, asked_seconds, energy_where, over_bands, over_periods, over_registers, owner_at, share_of}
use Rattle.pw_model.specs.Office.{HasBands, HasPeriods}
use Rattle.pw_months.specs.Between.{class_between, class_cost, cost_between, lies_in}
use Rattle.pw_months.specs.Why.{AreWhyRows, IsWhyRow, WhyAddsUp, WhyRow, covers, is_in, nano_in, over_rows, wh_in, where_row}
use Rattle.pw_months.proofs.Shared.{registers-alike}

-- ---- sums over rows
rows-same : (f g : WhyRow → ℕ) (rows : List WhyRow) → ((row : WhyRow) → Member row rows → f row ≡ g row) →
    over_rows f rows ≡ over_rows g rows
rows-same f g [] h = refl
rows-same f g (row ∷ rows) h =
    let a : f row ≡ g row = h row (inl refl) in
    let b = rows-same f g rows (λ q m. h q (inr m)) in
    rw (a, b)

rows-none : (f : WhyRow → ℕ) (rows : List WhyRow) → ((row : WhyRow) → Member row rows → f row ≡ 0) →
    over_rows f rows ≡ 0
rows-none f [] h = refl
rows-none f (row ∷ rows) h =
    let a : f row ≡ 0 = h row (inl refl) in
    let b = rows-none f rows (λ q m. h q (inr m)) in
    rw (a, b)

rows-add : (f g : WhyRow → ℕ) (rows : List WhyRow) →
    over_rows (λ row. f row + g row) rows ≡ over_rows f rows + over_rows g rows
rows-add f g [] = refl
rows-add f g (row ∷ rows) = let a = rows-add f g rows in omega arith

-- sums change places
rows-sum : (f : WhyRow → ℕ → ℕ) (x n : ℕ) (rows : List WhyRow) →
    sum_over (λ t. over_rows (λ row. f row t) rows) x n ≡ over_rows (λ row. sum_over (f row) x n) rows
rows-sum f x n [] = sum-none (λ t. 0) x n (λ t a b. refl)
rows-sum f x n (row ∷ rows) =
    sum-add (f row) (λ t. over_rows (λ q. f q t) rows) x n ∙ ap (λ s. sum_over (f row) x n + s) (rows-sum f x n rows)

-- ---- rows of which a test holds
no-row : (p : WhyRow → Bool) (f : WhyRow → ℕ) (rows : List WhyRow) → over_rows (where_row p (λ row. 1)) rows ≡ 0 →
    over_rows (where_row p f) rows ≡ 0
no-row p f [] h = refl
no-row p f (row ∷ rows) h =
    elim (cases_Bool (p row)) [
      | inl t ↦ (let g : 1 + over_rows (where_row p (λ q. 1)) rows ≡ 0 = rw t at h in absurd (omega arith))
      | inr n ↦ (let g : 0 + over_rows (where_row p (λ q. 1)) rows ≡ 0 = rw n at h in let r = no-row p f rows (omega arith) in rw n (omega arith))
    ]

some-row : (p : WhyRow → Bool) (rows : List WhyRow) → 0 < over_rows (where_row p (λ row. 1)) rows →
    (row : WhyRow) × Member row rows × (p row ≡ true)
some-row p [] h = absurd (omega arith)
some-row p (row ∷ rows) h =
    elim (cases_Bool (p row)) [
      | inl t ↦ (row, inl refl, t)
      | inr n ↦ (let g : 0 < 0 + over_rows (where_row p (λ q. 1)) rows = rw n at h in let r = some-row p rows (omega arith) in (r.0, inr r.1, r.2))
    ]

counted : (p : WhyRow → Bool) (rows : List WhyRow) (row : WhyRow) → Member row rows → p row ≡ true →
    0 < over_rows (where_row p (λ q. 1)) rows
counted p [] row m t = absurd m
counted p (q ∷ rows) row (inl i) t =
    let P : WhyRow → Type 0 = λ v. p v ≡ true in let u : p q ≡ true = subst P i t in rw u (omega arith)
counted p (q ∷ rows) row (inr m) t = let r = counted p rows row m t in omega arith

-- where one at most passes, the sum is that of the one that does
one-row : (p : WhyRow → Bool) (f : WhyRow → ℕ) (rows : List WhyRow) → over_rows (where_row p (λ row. 1)) rows ≤ 1 →
    (row : WhyRow) → Member row rows → p row ≡ true → over_rows (where_row p f) rows ≡ f row
one-row p f [] h row m t = absurd m
one-row p f (q ∷ rows) h row (inl i) t =
    let P : WhyRow → Type 0 = λ v. p v ≡ true in
    let u : p q ≡ true = subst P i t in
    let g : 1 + over_rows (where_row p (λ v. 1)) rows ≤ 1 = rw u at h in
    let none = no-row p f rows (omega arith) in
    let e : f row ≡ f q = ap f i in
    rw u (omega arith)
one-row p f (q ∷ rows) h row (inr m) t =
    elim (cases_Bool (p q)) [
      | inl u ↦ (let g : 1 + over_rows (where_row p (λ v. 1)) rows ≤ 1 = rw u at h in let c = counted p rows row m t in absurd (omega arith))
      | inr n ↦ (let g : 0 + over_rows (where_row p (λ v. 1)) rows ≤ 1 = rw n at h in let r = one-row p f rows (omega arith) row m t in rw n (omega arith))
    ]

-- ---- helpers
-- what lies in a span of seconds is the sum over the span
inside : (f : ℕ → ℕ) (p q end : ℕ) → p ≤ q → q ≤ end → sum_over (kept (lies_in p q) f) 0 end ≡ sum_over f p (q - p)
inside f p q end h i =
    let g : ℕ → ℕ = kept (lies_in p q) f in
    let z : 0 + p ≡ p = zero-add p in
    let e : p + ((q - p) + (end - q)) ≡ end = omega arith in
    let j : p + (q - p) ≡ q = omega arith in
    let whole : sum_over (kept (lies_in p q) f) 0 (p + ((q - p) + (end - q))) ≡ sum_over (kept (lies_in p q) f) 0 p + sum_over (kept (lies_in p q) f) (0 + p) ((q - p) + (end - q)) = sum-split (kept (lies_in p q) f) 0 p ((q - p) + (end - q)) in
    let rest : sum_over (kept (lies_in p q) f) p ((q - p) + (end - q)) ≡ sum_over (kept (lies_in p q) f) p (q - p) + sum_over (kept (lies_in p q) f) (p + (q - p)) (end - q) = sum-split (kept (lies_in p q) f) p (q - p) (end - q) in
    let before : sum_over (kept (lies_in p q) f) 0 p ≡ 0
    = kept-none (lies_in p q) f 0 p (λ t a b. early t (omega arith)) in
    let here : sum_over (kept (lies_in p q) f) p (q - p) ≡ sum_over f p (q - p)
    = kept-all (lies_in p q) f p (q - p) (λ t a b. within t a (omega arith)) in
    let behind : sum_over (kept (lies_in p q) f) q (end - q) ≡ 0
    = kept-none (lies_in p q) f q (end - q) (λ t a b. late t a) in
    let w2 = rw (e, z) at whole in
    let r2 = rw j at rest in
    omega arith
  where
    early : (t : ℕ) → t < p → lies_in p q t ≡ false
    early t l = rw (lt-leb p t l)

    within : (t : ℕ) → p ≤ t → t < q → lies_in p q t ≡ true
    within t l m = rw (le-leb p t l, lt-ltb t q m)

    late : (t : ℕ) → q ≤ t → lies_in p q t ≡ false
    late t l = let m : p ≤ t = omega arith in rw (le-leb p t m, le-ltb t q l)

registers-rows : (d : Direction) (f : Register → WhyRow → ℕ) (rows : List WhyRow) →
    over_registers d (λ r. over_rows (f r) rows) ≡ over_rows (λ row. over_registers d (λ r. f r row)) rows
registers-rows Import f rows =
    sym (rows-add (λ row. f I0 row + f I1 row) (f I2) rows ∙ ap (λ n. n + over_rows (f I2) rows) (rows-add (f I0) (f I1) rows))
registers-rows Export f rows =
    sym (rows-add (λ row. f E0 row + f E1 row) (f E2) rows ∙ ap (λ n. n + over_rows (f E2) rows) (rows-add (f E0) (f E1) rows))

-- a row's register alone has it
abbrev IsPicked : Direction → Register → ℕ → Type 0
IsPicked d q n = over_registers d (λ r. cond (same_register q r) n 0) ≡ cond (same_direction (direction_of q) d) n 0

picked : (q : Register) (n : ℕ) → IsPicked Import q n × IsPicked Export q n
picked I0 n = (omega arith, omega arith)
picked I1 n = (omega arith, omega arith)
picked I2 n = (omega arith, omega arith)
picked E0 n = (omega arith, omega arith)
picked E1 n = (omega arith, omega arith)
picked E2 n = (omega arith, omega arith)

pick-register : (d : Direction) (q : Register) (c : Bool) (n : ℕ) →
    over_registers d (λ r. cond (c && same_register q r) n 0) ≡ cond c (cond (same_direction (direction_of q) d) n 0) 0
pick-register Import q false n = refl
pick-register Export q false n = refl
pick-register Import q true n = (picked q n).0
pick-register Export q true n = (picked q n).1

-- ---- one second of a register
module _ (office : OfficeRules) (at : Key → Contents) (a x y : ℕ) (rows : List WhyRow) (why : AreWhyRows office at a x y rows) (p b : ℕ) where
  abbrev keeps : ℕ → ℕ → Bool
  keeps m = asked_seconds at (class_between office x y (Some (account a)) p b) m

  -- what a row has of the period and band
  abbrev gives : ℕ → WhyRow → ℕ
  gives n row = cond (is_in p b row) n 0

  same-to : (o : Option AccountId) → same_owner o (Some (account a)) ≡ true → o ≡ Some (account a)
  same-to None h = absurd (true≢false (sym h))
  same-to (Some c) h = let e : c.0 ≡ a = eqb-true c.0 a h in λ i. Some (record { 0 = e i })

  second-none : (m : ℕ) (r : Register) (t n : ℕ) → m < office.meters → office.counts m r ≡ true →
      n ≡ flow (point at m r) office.end t →
      over_rows (where_row (covers m r t) (λ row. 1)) rows ≡ 0 → cond (keeps m t) n 0 ≡ 0
  second-none m r t n l c f z =
      elim (cases_Bool (keeps m t)) [
        | inr e ↦ rw e refl
        | inl e ↦ (
            let tariff : Bool = (office.period t == p) && (office.band t == b) in
            let one = and_parts (lies_in x y t) (same_owner (owner_at at m t) (Some (account a)) && tariff) e in
            let two = and_parts (nat_le x t) (nat_lt t y) one.0 in
            let three = and_parts (same_owner (owner_at at m t) (Some (account a))) tariff one.1 in
            elim (why.all m r t l c (leb-true x t two.0) (ltb-true t y two.1) (same-to (owner_at at m t) three.0)) [
              | inl g ↦ rw e (f ∙ g)
              | inr k ↦ (let u = counted (covers m r t) rows k.0 k.1 k.2 in absurd (omega arith))
            ])
      ]

  second-one : (m : ℕ) (r : Register) (t : ℕ) (row : WhyRow) → Member row rows → covers m r t row ≡ true →
      keeps m t ≡ is_in p b row
  second-one m r t row k h =
      let w = why.each row k in
      let one = and_parts ((row.meter == m) && same_register row.register r) (lies_in row.begin row.until t) h in
      let two = and_parts (row.meter == m) (same_register row.register r) one.0 in
      let three = and_parts (nat_le row.begin t) (nat_lt t row.until) one.1 in
      let begun : row.begin ≤ t = leb-true row.begin t three.0 in
      let under_way : t < row.until = ltb-true t row.until three.1 in
      let P : ℕ → Type 0 = λ v. owner_at at v t ≡ Some (account a) in
      let class = w.of_class t begun under_way in
      let owner : owner_at at m t ≡ Some (account a) = subst P (eqb-true row.meter m two.0) class.0 in
      let period : office.period t ≡ row.period = class.1 in
      let band : office.band t ≡ row.band = class.2 in
      let low : x ≤ row.begin = w.within.0 in
      let high : row.until ≤ y = w.within.1 in
      let xl : x ≤ t = omega arith in
      let yl : t < y = omega arith in
      let e : nat_le x t ≡ true = le-leb x t xl in
      let f : nat_lt t y ≡ true = lt-ltb t y yl in
      let g : (a == a) ≡ true = eq-eqb a a refl in
      rw (owner, e, f, period, band, g) refl

  second : (m : ℕ) (r : Register) → m < office.meters → office.counts m r ≡ true → (t : ℕ) →
      kept (keeps m) (flow (point at m r) office.end) t
      ≡ over_rows (where_row (covers m r t) (gives (flow (point at m r) office.end t))) rows
  second m r l c t =
      let n : ℕ = flow (point at m r) office.end t in
      elim (cases_lt 0 (over_rows (where_row (covers m r t) (λ row. 1)) rows)) [
        | inr z ↦ (
            let none : over_rows (where_row (covers m r t) (λ row. 1)) rows ≡ 0 = omega arith in
            second-none m r t (flow (point at m r) office.end t) l c refl none
            ∙ sym (no-row (covers m r t) (gives (flow (point at m r) office.end t)) rows none))
        | inl some ↦ (
            let k = some-row (covers m r t) rows some in
            ap (λ q. cond q (flow (point at m r) office.end t) 0) (second-one m r t k.0 k.1 k.2)
            ∙ sym (one-row (covers m r t) (gives (flow (point at m r) office.end t)) rows (why.once m r t) k.0 k.1 k.2))
      ]

  -- ---- one row
  own-flow : (row : WhyRow) → Member row rows →
      sum_over (kept (lies_in row.begin row.until) (flow (point at row.meter row.register) office.end)) 0 office.end
      ≡ row.wh
  own-flow row k =
      let w = why.each row k in
      let rise : row.begin ≤ row.until = omega (arith, w.piece.1) in
      let last : row.until ≤ office.end = omega (arith, w.piece.2, w.seen) in
      inside (flow (point at row.meter row.register) office.end) row.begin row.until office.end rise last
      ∙ (pieces-of (point at row.meter row.register) office.end row.from row.low row.to row.high w.neighbours w.seen w.rising).piece row.begin row.until w.piece.0 rise w.piece.2
      ∙ sym w.given

  row-flow : (m : ℕ) (r : Register) (row : WhyRow) → Member row rows →
      sum_over (λ t. where_row (covers m r t) (gives (flow (point at m r) office.end t)) row) 0 office.end
      ≡ cond ((row.meter == m) && same_register row.register r) (gives row.wh row) 0
  row-flow m r row k =
      elim (cases_Bool ((row.meter == m) && same_register row.register r)) [
        | inr e ↦ rw e (sum-none _ 0 office.end (λ t u v. refl))
        | inl e ↦ elim (cases_Bool (is_in p b row)) [
          | inr f ↦ rw (e, f) (sum-none _ 0 office.end (λ t u v. kept-nothing (lies_in row.begin row.until t) 0 refl))
          | inl f ↦ (
              let two = and_parts (row.meter == m) (same_register row.register r) e in
              let P : ℕ → Type 0
              = λ v. sum_over (kept (lies_in row.begin row.until) (flow (point at v row.register) office.end)) 0 office.end ≡ row.wh in
              let Q : Register → Type 0
              = λ v. sum_over (kept (lies_in row.begin row.until) (flow (point at m v) office.end)) 0 office.end
              ≡ row.wh in
              let there = subst P (eqb-true row.meter m two.0) (own-flow row k) in
              let here = subst Q (register-one row.register r (eqb-true (register_place row.register) (register_place r) two.1)) there in
              rw (e, f) here)
        ]
      ]

  -- ---- one register, one meter, all
  share-rows : (m : ℕ) (r : Register) → m < office.meters →
      share_of office at (class_between office x y (Some (account a)) p b) m r
      ≡ over_rows (λ row. cond ((row.meter == m) && same_register row.register r) (gives row.wh row) 0) rows
  unfolding register_energy
  share-rows m r l =
      elim (cases_Bool (office.counts m r)) [
        | inl c ↦ rw c (
            sum-same (kept (keeps m) (flow (point at m r) office.end)) (λ t. over_rows (where_row (covers m r t) (gives (flow (point at m r) office.end t))) rows) 0 office.end (λ t u v. second m r l c t)
            ∙ rows-sum (λ row t. where_row (covers m r t) (gives (flow (point at m r) office.end t)) row) 0 office.end rows
            ∙ rows-same _ _ rows (λ row k. row-flow m r row k))
        | inr c ↦ rw c (sym (rows-none _ rows (λ row k. foreign m r row k c)))
      ]
    where
      foreign : (m : ℕ) (r : Register) (row : WhyRow) → Member row rows → office.counts m r ≡ false →
          cond ((row.meter == m) && same_register row.register r) (gives row.wh row) 0 ≡ 0
      foreign m r row k c =
          elim (cases_Bool ((row.meter == m) && same_register row.register r)) [
            | inr e ↦ rw e refl
            | inl e ↦ (
                let two = and_parts (row.meter == m) (same_register row.register r) e in
                let same : office.counts row.meter row.register ≡ office.counts m r
                = λ i. office.counts (eqb-true row.meter m two.0 i) (register-one row.register r (eqb-true (register_place row.register) (register_place r) two.1) i) in
                absurd (true≢false (sym ((why.each row k).counts) ∙ same ∙ c)))
          ]

  pub rows-energy : (d : Direction) →
      over_rows (wh_in p b d) rows ≡ energy_where office at d (class_between office x y (Some (account a)) p b)
  unfolding energy_where
  rows-energy d =
      sym (
      sum-same _ _ 0 office.meters (λ m u v.
      registers-alike d _ _ (λ r. share-rows m r (omega arith))
      ∙ registers-rows d (λ r row. cond ((row.meter == m) && same_register row.register r) (gives row.wh row) 0) rows
      ∙ rows-same _ _ rows (λ row k. pick-register d row.register (row.meter == m) (gives row.wh row)))
      ∙ rows-sum (λ row m. cond (row.meter == m) (wh_in p b d row) 0) 0 office.meters rows
      ∙ rows-same _ _ rows (λ row k. sum-pick row.meter (wh_in p b d row) office.meters ∙ rw (lt-ltb row.meter office.meters (why.each row k).meter)))

-- ---- what they cost
rows-times : (n : ℕ) (f : WhyRow → ℕ) (rows : List WhyRow) → n * over_rows f rows ≡ over_rows (λ row. n * f row) rows
rows-times n f [] = mul-zero n
rows-times n f (row ∷ rows) = mul-add n (f row) (over_rows f rows) ∙ ap (λ k. n * f row + k) (rows-times n f rows)

direction-to : (c d : Direction) → same_direction c d ≡ true → c ≡ d
direction-to Import Import h = refl
direction-to Export Export h = refl
direction-to Import Export h = absurd (true≢false (sym h))
direction-to Export Import h = absurd (true≢false (sym h))

module _ (office : OfficeRules) (at : Key → Contents) (a x y : ℕ) (d : Direction) where
  -- what a row's Wh cost at the price of a period and band
  abbrev cost_by : WhyRow → ℕ → ℕ → ℕ
  cost_by row p b = office.price p b d * wh_in p b d row

  priced : (row : WhyRow) → IsWhyRow office at a x y row → direction_of row.register ≡ d → (p b : ℕ) →
      office.price p b d * cond ((row.period == p) && (row.band == b)) row.wh 0
      ≡ cond (row.period == p) (cond (row.band == b) row.nano 0) 0
  priced row w e p b =
      elim (cases_Bool (row.period == p)) [
        | inr f ↦ rw f (mul-zero (office.price p b d))
        | inl f ↦ elim (cases_Bool (row.band == b)) [
          | inr g ↦ rw (f, g) (mul-zero (office.price p b d))
          | inl g ↦ (
              let same : office.price row.period row.band (direction_of row.register) * row.wh ≡ office.price p b d * row.wh
              = λ i. office.price (eqb-true row.period p f i) (eqb-true row.band b g i) (e i) * row.wh in
              rw (f, g) (sym (w.cost ∙ same)))
        ]
      ]

  -- one period's bands
  bands-priced : (row : WhyRow) → IsWhyRow office at a x y row → direction_of row.register ≡ d →
      row.band < office.bands → (p : ℕ) →
      over_bands office (λ b. office.price p b d * cond ((row.period == p) && (row.band == b)) row.wh 0)
      ≡ cond (row.period == p) row.nano 0
  bands-priced row w e l p =
      sum-same _ (λ b. cond (row.period == p) (cond (row.band == b) row.nano 0) 0) 0 office.bands (λ b u v. priced row w e p b)
      ∙ sum-cond (row.period == p) (λ b. cond (row.band == b) row.nano 0) office.bands
      ∙ ap (λ n. cond (row.period == p) n 0) (sum-one row.band row.nano office.bands l)

  row-cost : (row : WhyRow) → IsWhyRow office at a x y row → HasPeriods office → HasBands office →
      over_periods office (λ p. over_bands office (λ b. cost_by row p b)) ≡ nano_in d row
  row-cost row w hp hb =
      elim (cases_Bool (same_direction (direction_of row.register) d)) [
        | inr f ↦ rw f (sum-none _ 0 office.periods
            (λ p u v. sum-none _ 0 office.bands (λ b s t. mul-zero (office.price p b d))))
        | inl f ↦ (
            let start : row.begin ≤ row.begin = omega arith in
            let class = w.of_class row.begin start w.piece.1 in
            let period : row.period < office.periods = omega (arith, hp row.begin, class.1) in
            let band : row.band < office.bands = omega (arith, hb row.begin, class.2) in
            let e : direction_of row.register ≡ d = direction-to (direction_of row.register) d f in
            rw f (
            sum-same _ (λ p. cond (row.period == p) row.nano 0) 0 office.periods (λ p u v. bands-priced row w e band p)
            ∙ sum-one row.period row.nano office.periods period))
      ]

  module _ (rows : List WhyRow) (why : AreWhyRows office at a x y rows) where
    class-rows : (p b : ℕ) →
        class_cost office at (Some (account a)) p b d x y ≡ over_rows (λ row. cost_by row p b) rows
    class-rows p b =
        ap (λ n. office.price p b d * n) (sym (rows-energy office at a x y rows why p b d))
        ∙ rows-times (office.price p b d) (wh_in p b d) rows

    period-rows : (p : ℕ) →
        over_bands office (λ b. class_cost office at (Some (account a)) p b d x y)
        ≡ over_rows (λ row. over_bands office (λ b. cost_by row p b)) rows
    period-rows p =
        sum-same _ (λ b. over_rows (λ row. cost_by row p b) rows) 0 office.bands (λ b u v. class-rows p b)
        ∙ rows-sum (λ row b. cost_by row p b) 0 office.bands rows

    pub rows-cost : HasPeriods office → HasBands office →
        over_rows (nano_in d) rows ≡ cost_between office at (Some (account a)) d x y
    unfolding cost_between
    rows-cost hp hb =
        sym (
        sum-same _ (λ p. over_rows (λ row. over_bands office (λ b. cost_by row p b)) rows) 0 office.periods (λ p u v. period-rows p)
        ∙ rows-sum (λ row p. over_bands office (λ b. cost_by row p b)) 0 office.periods rows
        ∙ rows-same _ _ rows (λ row k. row-cost row (why.each row k) hp hb))

pub why-adds_up : WhyAddsUp
why-adds_up office s a x y rows why = record {
  energy = λ p b d. rows-energy office (contents_at s) a x y rows why p b d;
  whole_cost = λ hp hb d. rows-cost office (contents_at s) a x y d rows why hp hb;
}
