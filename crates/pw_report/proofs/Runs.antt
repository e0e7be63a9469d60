-- Each set of records has rows of why, and one list of them.
use Rattle.std.proofs.Common.{◌≡◌, ◌⊎◌, ℕ, zero, suc, ◌+◌, ◌-◌, ◌*◌, ◌<◌, ◌≤◌, nat_le, nat_lt, Bool, true, Option, Some, None, List, [], ◌∷◌, refl, sym, ap, subst, ◌∙◌, arith, inl, inr}
use Rattle.std.specs.Prelude.{◌&&◌, ◌==◌, slice_index}
use Rattle.std.proofs.lemmas.Bool.{and_parts, cases_Bool, cases_lt, eq-eqb, eqb-true, le-leb, leb-true, lt-ltb, ltb-true, true≢false}
use Rattle.std.proofs.lemmas.Cmp.{nat_list_cmp_total, on_total}
use Rattle.std.specs.declared.cmp.Ordering.TheVariants.{Less, Equal}
use Rattle.pw_obis.specs.declared.reference.Register.{Register}
use Rattle.pw_obis.specs.declared.reference.Register.TheVariants.{I0, I1, I2, E0, E1, E2}
use Rattle.pw_tariff.specs.declared.ids.AccountId.{AccountId}
use Rattle.pw_tariff.specs.Office.{OfficeRules, register_place, same_register}
use Rattle.pw_flow.specs.Flow.{AreNeighbours, IsSpanned, flow, level, pair_flow}
use Rattle.pw_flow.proofs.Level.{level-up, pair_flow-is, pair_flow-fall}
use Rattle.pw_flow.proofs.Neighbours.{flow-spanned, flow-unspanned}
use Rattle.pw_flow.proofs.Points.{last-cases, next-cases}
use Rattle.pw_model.specs.declared.records.Key.{Key}
use Rattle.pw_model.specs.declared.records.Contents.{Contents}
use Rattle.pw_model.specs.Same.{direction_of}
use Rattle.pw_model.specs.Counting.{Member, point}
use Rattle.pw_model.specs.Energy.{account, owner_at}
use Rattle.pw_model.specs.Lists.{IsInOrder, Lists}
use Rattle.pw_model.proofs.EntryOrder.{numbers-tie}
use Rattle.pw_model.proofs.InOrder.{before-member, by-numbers, lists-one}
use Rattle.pw_model.proofs.Same.{register-one}
use Rattle.pw_months.specs.Between.{lies_in}
use Rattle.pw_months.specs.Why.{AreWhyRows, IsOfClass, IsWhyRow, WhyRow, covers, over_rows, row_numbers, row_order, where_row}
use Rattle.pw_report.proofs.Gathering.{Gives, all-gathered}

-- ---- the neighbours round a second
abbrev IsRound : (ℕ → Option ℕ) → ℕ → ℕ → ℕ × ℕ × ℕ × ℕ → Type 0
IsRound p end t n = IsSpanned p end t n.0 n.1 n.2 n.3

round-known : (p : ℕ → Option ℕ) (end t : ℕ) → ((n : ℕ × ℕ × ℕ × ℕ) × IsRound p end t n) ⊎ ((x w y v : ℕ) → IsSpanned p end t x w y v → ⊥)
round-known p end t =
    elim (last-cases p t) [
      | inl n ↦ inr (λ x w y v h. (let a : p x ≡ None = n x h.begun in let b : p x ≡ Some w = h.neighbours.first in cc))
      | inr f ↦ elim (next-cases p t (end - t)) [
        | inl m ↦ inr (λ x w y v h. (
            let a : p y ≡ None = m y h.under_way (let s = h.seen in let l = h.under_way in omega (arith, s, l)) in
            let b : p y ≡ Some v = h.neighbours.second in
            cc))
        | inr g ↦ inl (
          (f.0, f.1, g.0, g.1),
          record {
            neighbours = record {
              earlier = omega (arith, f.2.early, g.2.late);
              first = f.2.holds;
              second = g.2.holds;
              between = λ s a b. elim (cases_lt t s) [ inl l ↦ g.2.none s l b | inr l ↦ f.2.none s a l ];
            };
            seen = omega (arith, g.2.early, g.2.late);
            begun = f.2.early;
            under_way = g.2.late;
          },
        )
      ]
    ]

some-one : (a b : ℕ) → Some a ≡ Some b → a ≡ b
some-one a b e = cc

-- they are the only ones
round-first : (p : ℕ → Option ℕ) (end t x w y v x2 w2 y2 v2 : ℕ) → IsSpanned p end t x w y v → IsSpanned p end t x2 w2 y2 v2 → x < x2 → ⊥
round-first p end t x w y v x2 w2 y2 v2 h g l =
    let b = g.begun in
    let u = h.under_way in
    let n : p x2 ≡ None = h.neighbours.between x2 l (omega (arith, b, u)) in
    let f : p x2 ≡ Some w2 = g.neighbours.first in
    cc

round-second : (p : ℕ → Option ℕ) (end t x w y v x2 w2 y2 v2 : ℕ) → IsSpanned p end t x w y v → IsSpanned p end t x2 w2 y2 v2 → y < y2 → ⊥
round-second p end t x w y v x2 w2 y2 v2 h g l =
    let b = g.begun in
    let u = h.under_way in
    let n : p y ≡ None = g.neighbours.between y (omega (arith, b, u)) l in
    let f : p y ≡ Some v = h.neighbours.second in
    cc

round-one : (p : ℕ → Option ℕ) (end t x w y v x2 w2 y2 v2 : ℕ) → IsSpanned p end t x w y v → IsSpanned p end t x2 w2 y2 v2 →
    (x ≡ x2) × (w ≡ w2) × (y ≡ y2) × (v ≡ v2)
round-one p end t x w y v x2 w2 y2 v2 h g =
    let e : x ≡ x2 = elim (cases_lt x x2) [
      | inl l ↦ absurd (round-first p end t x w y v x2 w2 y2 v2 h g l)
      | inr k ↦ elim (cases_lt x2 x) [
        | inl l ↦ absurd (round-first p end t x2 w2 y2 v2 x w y v g h l)
        | inr l ↦ omega (arith, k, l)
      ]
    ] in
    let f : y ≡ y2 = elim (cases_lt y y2) [
      | inl l ↦ absurd (round-second p end t x w y v x2 w2 y2 v2 h g l)
      | inr k ↦ elim (cases_lt y2 y) [
        | inl l ↦ absurd (round-second p end t x2 w2 y2 v2 x w y v g h l)
        | inr l ↦ omega (arith, k, l)
      ]
    ] in
    let P : ℕ → Type 0 = λ n. p n ≡ Some w in
    let Q : ℕ → Type 0 = λ n. p n ≡ Some v in
    (e, some-one w w2 (sym (subst P e h.neighbours.first) ∙ g.neighbours.first), f, some-one v v2 (sym (subst Q f h.neighbours.second) ∙ g.neighbours.second))

-- ---- numbers
same-known : (m n : ℕ) → (m ≡ n) ⊎ (m ≡ n → ⊥)
same-known m n =
    elim (cases_lt m n) [
      | inl l ↦ inr (λ e. omega (arith, l, e))
      | inr k ↦ elim (cases_lt n m) [
        | inl l ↦ inr (λ e. omega (arith, l, e))
        | inr l ↦ inl (omega (arith, k, l))
      ]
    ]

abbrev number : Option AccountId → ℕ
number None = 0
number (Some b) = b.0

-- whether an owner is the account
pub owner-known : (a : ℕ) (o : Option AccountId) → (o ≡ Some (account a)) ⊎ (o ≡ Some (account a) → ⊥)
owner-known a None = inr (λ e. cc)
owner-known a (Some b) =
    elim (same-known b.0 a) [
      | inl e ↦ inl (λ i. Some (record { 0 = e i }))
      | inr n ↦ inr (λ e. n (ap number e))
    ]

-- the later one of two, and the sooner one
later-known : (f x t : ℕ) → f ≤ t → x ≤ t → (c : ℕ) × (f ≤ c) × (x ≤ c) × (c ≤ t) × ((c ≡ f) ⊎ (c ≡ x))
later-known f x t g h =
    elim (cases_lt f x) [
      | inl l ↦ (x, omega (arith, l), omega arith, h, inr refl)
      | inr l ↦ (f, omega arith, l, g, inl refl)
    ]

sooner-known : (u y t : ℕ) → t < u → t < y → (c : ℕ) × (c ≤ u) × (c ≤ y) × (t < c) × ((c ≡ u) ⊎ (c ≡ y))
sooner-known u y t g h =
    elim (cases_lt u y) [
      | inl l ↦ (u, omega arith, omega (arith, l), g, inl refl)
      | inr l ↦ (y, l, omega arith, h, inr refl)
    ]

-- ---- all seconds of all registers of so many meters
unfoldable pub seconds_of : ℕ → Register → ℕ → List (ℕ × Register × ℕ) → List (ℕ × Register × ℕ)
seconds_of m r zero rest = rest
seconds_of m r (suc n) rest = (m, r, n) ∷ seconds_of m r n rest

unfoldable pub of_registers : ℕ → ℕ → List (ℕ × Register × ℕ) → List (ℕ × Register × ℕ)
of_registers m n rest =
    seconds_of m I0 n (seconds_of m I1 n (seconds_of m I2 n (seconds_of m E0 n (seconds_of m E1 n (seconds_of m E2 n rest)))))

unfoldable pub all_seconds : ℕ → ℕ → List (ℕ × Register × ℕ)
all_seconds zero n = []
all_seconds (suc m) n = of_registers m n (all_seconds m n)

second-here : (m : ℕ) (r : Register) (n t : ℕ) (rest : List (ℕ × Register × ℕ)) → t < n → Member (m, r, t) (seconds_of m r n rest)
unfolding seconds_of
second-here m r zero t rest l = absurd (omega (arith, l))
second-here m r (suc n) t rest l =
    elim (cases_lt t n) [
      | inl k ↦ inr (second-here m r n t rest k)
      | inr k ↦ inl (let e : t ≡ n = omega (arith, k, l) in λ i. (m, r, e i))
    ]

second-behind : (c : ℕ × Register × ℕ) (m : ℕ) (r : Register) (n : ℕ) (rest : List (ℕ × Register × ℕ)) → Member c rest → Member c (seconds_of m r n rest)
unfolding seconds_of
second-behind c m r zero rest h = h
second-behind c m r (suc n) rest h = inr (second-behind c m r n rest h)

second-of : (m : ℕ) (r : Register) (n t : ℕ) (rest : List (ℕ × Register × ℕ)) → t < n → Member (m, r, t) (of_registers m n rest)
unfolding of_registers
second-of m I0 n t rest l = second-here m I0 n t _ l
second-of m I1 n t rest l = second-behind (m, I1, t) m I0 n _ (second-here m I1 n t _ l)
second-of m I2 n t rest l = second-behind (m, I2, t) m I0 n _ (second-behind (m, I2, t) m I1 n _ (second-here m I2 n t _ l))
second-of m E0 n t rest l =
    second-behind (m, E0, t) m I0 n _ (second-behind (m, E0, t) m I1 n _ (second-behind (m, E0, t) m I2 n _ (second-here m E0 n t _ l)))
second-of m E1 n t rest l =
    second-behind (m, E1, t) m I0 n _ (second-behind (m, E1, t) m I1 n _ (second-behind (m, E1, t) m I2 n _
    (second-behind (m, E1, t) m E0 n _ (second-here m E1 n t _ l))))
second-of m E2 n t rest l =
    second-behind (m, E2, t) m I0 n _ (second-behind (m, E2, t) m I1 n _ (second-behind (m, E2, t) m I2 n _
    (second-behind (m, E2, t) m E0 n _ (second-behind (m, E2, t) m E1 n _ (second-here m E2 n t _ l)))))

registers-behind : (c : ℕ × Register × ℕ) (m n : ℕ) (rest : List (ℕ × Register × ℕ)) → Member c rest → Member c (of_registers m n rest)
unfolding of_registers
registers-behind c m n rest h =
    second-behind c m I0 n _ (second-behind c m I1 n _ (second-behind c m I2 n _
    (second-behind c m E0 n _ (second-behind c m E1 n _ (second-behind c m E2 n rest h)))))

pub second-there : (k n m : ℕ) (r : Register) (t : ℕ) → m < k → t < n → Member (m, r, t) (all_seconds k n)
unfolding all_seconds
second-there zero n m r t l g = absurd (omega (arith, l))
second-there (suc k) n m r t l g =
    elim (cases_lt m k) [
      | inl i ↦ registers-behind (m, r, t) k n (all_seconds k n) (second-there k n m r t i g)
      | inr i ↦ (
          let e : k ≡ m = omega (arith, l, i) in
          let P : ℕ → Type 0 = λ j. Member (m, r, t) (of_registers j n (all_seconds k n)) in
          subst P (sym e) (second-of m r n t (all_seconds k n) g))
    ]

-- the numbers of a row
numbers-are : (v w : WhyRow) → row_numbers v ≡ row_numbers w →
    (v.meter ≡ w.meter) × (register_place v.register ≡ register_place w.register) × (v.begin ≡ w.begin)
unfolding row_numbers
numbers-are v w e = (ap (λ (l : List ℕ). slice_index l 0) e, ap (λ (l : List ℕ). slice_index l 1) e, ap (λ (l : List ℕ). slice_index l 2) e)

-- ---- rows in order, of which no two pass
none-again : (p : WhyRow → Bool) (v : WhyRow) (rows : List WhyRow) → ((w : WhyRow) → Member w rows → p w ≡ true → v ≡ w) →
    ((w : WhyRow) → Member w rows → row_order v w ≡ Less) → over_rows (where_row p (λ row. 1)) rows ≡ 0
none-again p v [] same before = refl
none-again p v (w ∷ rows) same before =
    let rest = none-again p v rows (λ q i. same q (inr i)) (λ q i. before q (inr i)) in
    elim (cases_Bool (p w)) [
      | inr f ↦ rw f (omega (arith, rest))
      | inl k ↦ (
          let P : WhyRow → Type 0 = λ q. row_order v q ≡ Less in
          absurd ((by-numbers row_numbers).apart v (subst P (sym (same w (inl refl) k)) (before w (inl refl)))))
    ]

each-once : (p : WhyRow → Bool) (rows : List WhyRow) → IsInOrder row_order rows →
    ((v w : WhyRow) → Member v rows → Member w rows → p v ≡ true → p w ≡ true → v ≡ w) → over_rows (where_row p (λ row. 1)) rows ≤ 1
each-once p [] up same = omega arith
each-once p (v ∷ rows) up same =
    elim (cases_Bool (p v)) [
      | inr f ↦ (let rest = each-once p rows up.1 (λ q s i j. same q s (inr i) (inr j)) in rw f (omega (arith, rest)))
      | inl k ↦ (
          let rest = none-again p v rows (λ w i. same v w (inl refl) (inr i) k) (λ w i. before-member row_order v w rows up.0 i) in
          rw k (omega (arith, rest)))
    ]

-- ---- runs of seconds of one class
module _ (office : OfficeRules) (at : Key → Contents) (a x y : ℕ) where
  -- a row, but that it may give nothing
  record IsRun (row : WhyRow) : Type 0 where
    meter : row.meter < office.meters
    counts : office.counts row.meter row.register ≡ true
    neighbours : AreNeighbours (point at row.meter row.register) row.from row.low row.to row.high
    rising : row.low ≤ row.high
    seen : row.to ≤ office.end
    piece : (row.from ≤ row.begin) × (row.begin < row.until) × (row.until ≤ row.to)
    within : (x ≤ row.begin) × (row.until ≤ y)
    of_class : (t : ℕ) → row.begin ≤ t → t < row.until → IsOfClass office at a row t
    first : (row.begin ≡ row.from) ⊎ ((row.begin ≡ x) ⊎ (IsOfClass office at a row (row.begin - 1) → ⊥))
    last : (row.until ≡ row.to) ⊎ ((row.until ≡ y) ⊎ (IsOfClass office at a row row.until → ⊥))
    given : row.wh ≡ level row.from row.low row.to row.high row.until - level row.from row.low row.to row.high row.begin
    cost : row.nano ≡ office.price row.period row.band (direction_of row.register) * row.wh

  run-of : (row : WhyRow) → IsWhyRow office at a x y row → IsRun row
  run-of row h = record {
    meter = h.meter;
    counts = h.counts;
    neighbours = h.neighbours;
    rising = h.rising;
    seen = h.seen;
    piece = h.piece;
    within = h.within;
    of_class = h.of_class;
    first = h.first;
    last = h.last;
    given = h.given;
    cost = h.cost;
  }

  row-of : (row : WhyRow) → IsRun row → 0 < row.wh → IsWhyRow office at a x y row
  row-of row h w = record {
    meter = h.meter;
    counts = h.counts;
    neighbours = h.neighbours;
    rising = h.rising;
    seen = h.seen;
    piece = h.piece;
    within = h.within;
    of_class = h.of_class;
    first = h.first;
    last = h.last;
    something = w;
    given = h.given;
    cost = h.cost;
  }

  -- a second of its piece
  abbrev Holds : WhyRow → ℕ → Type 0
  Holds row t = (row.begin ≤ t) × (t < row.until)

  spanned : (v : WhyRow) (t : ℕ) → IsRun v → Holds v t → IsSpanned (point at v.meter v.register) office.end t v.from v.low v.to v.high
  spanned v t h i = record {
    neighbours = h.neighbours;
    seen = h.seen;
    begun = (let p = h.piece.0 in omega (arith, p, i));
    under_way = (let p = h.piece.2 in omega (arith, p, i));
  }

  -- two of one register that have a second of both begin and end together
  module _ (v w : WhyRow) (h : IsRun v) (g : IsRun w) (m : v.meter ≡ w.meter) (r : v.register ≡ w.register)
      (t : ℕ) (i : Holds v t) (j : Holds w t) where
    same-pair : (v.from ≡ w.from) × (v.low ≡ w.low) × (v.to ≡ w.to) × (v.high ≡ w.high)
    same-pair =
        let P : (ℕ → Option ℕ) → Type 0 = λ p. IsSpanned p office.end t w.from w.low w.to w.high in
        let e : point at w.meter w.register ≡ point at v.meter v.register = λ k. point at (sym m k) (sym r k) in
        round-one (point at v.meter v.register) office.end t v.from v.low v.to v.high w.from w.low w.to w.high
        (spanned v t h i) (subst P e (spanned w t g j))

    same-period : v.period ≡ w.period
    same-period = sym (h.of_class t i.0 i.1).1 ∙ (g.of_class t j.0 j.1).1

    same-band : v.band ≡ w.band
    same-band = sym (h.of_class t i.0 i.1).2 ∙ (g.of_class t j.0 j.1).2

    -- what is of the one's class is of the other's
    other-class : (s : ℕ) → IsOfClass office at a v s → IsOfClass office at a w s
    other-class s c =
        let P : ℕ → Type 0 = λ n. owner_at at n s ≡ Some (account a) in
        (subst P m c.0, c.1 ∙ same-period, c.2 ∙ same-band)

    not-later : v.begin < w.begin → ⊥
    not-later l =
        let p = same-pair.0 in
        let d = h.piece.0 in
        let e = h.within.0 in
        elim g.first [
          | inl f ↦ absurd (omega (arith, l, f, p, d))
          | inr (inl f) ↦ absurd (omega (arith, l, f, e))
          | inr (inr n) ↦ n (other-class (w.begin - 1) (h.of_class (w.begin - 1) (omega (arith, l)) (omega (arith, l, i, j))))
        ]

    not-longer : w.until < v.until → ⊥
    not-longer l =
        let p = same-pair.2 in
        let d = h.piece.2 in
        let e = h.within.1 in
        elim g.last [
          | inl f ↦ absurd (omega (arith, l, f, p, d))
          | inr (inl f) ↦ absurd (omega (arith, l, f, e))
          | inr (inr n) ↦ n (other-class w.until (h.of_class w.until (omega (arith, i, j)) l))
        ]

  abbrev made : ℕ → Register → ℕ → ℕ → ℕ → ℕ → ℕ → ℕ → ℕ → ℕ → ℕ → ℕ → WhyRow
  made m r f l t h b u p d w n = record {
    meter = m;
    register = r;
    from = f;
    low = l;
    to = t;
    high = h;
    begin = b;
    until = u;
    period = p;
    band = d;
    wh = w;
    nano = n;
  }

  run-one : (v w : WhyRow) → IsRun v → IsRun w → v.meter ≡ w.meter → v.register ≡ w.register → (t : ℕ) → Holds v t → Holds w t → v ≡ w
  run-one v w h g m r t i j =
      let p = same-pair v w h g m r t i j in
      let q = same-period v w h g m r t i j in
      let d = same-band v w h g m r t i j in
      let b : v.begin ≡ w.begin = elim (cases_lt v.begin w.begin) [
        | inl l ↦ absurd (not-later v w h g m r t i j l)
        | inr k ↦ elim (cases_lt w.begin v.begin) [
          | inl l ↦ absurd (not-later w v g h (sym m) (sym r) t j i l)
          | inr l ↦ omega (arith, k, l)
        ]
      ] in
      let u : v.until ≡ w.until = elim (cases_lt v.until w.until) [
        | inl l ↦ absurd (not-longer w v g h (sym m) (sym r) t j i l)
        | inr k ↦ elim (cases_lt w.until v.until) [
          | inl l ↦ absurd (not-longer v w h g m r t i j l)
          | inr l ↦ omega (arith, k, l)
        ]
      ] in
      let wh : v.wh ≡ w.wh
      = h.given ∙ (λ k. level (p.0 k) (p.1 k) (p.2 k) (p.3 k) (u k) - level (p.0 k) (p.1 k) (p.2 k) (p.3 k) (b k)) ∙ sym g.given in
      let nano : v.nano ≡ w.nano = h.cost ∙ (λ k. office.price (q k) (d k) (direction_of (r k)) * wh k) ∙ sym g.cost in
      λ k. made (m k) (r k) (p.0 k) (p.1 k) (p.2 k) (p.3 k) (b k) (u k) (q k) (d k) (wh k) (nano k)

  -- ---- what is known of a second
  -- it is the account's, of a period and a band
  abbrev IsIn : ℕ → ℕ → ℕ → ℕ → Type 0
  IsIn m p b s = (owner_at at m s ≡ Some (account a)) × (office.period s ≡ p) × (office.band s ≡ b)

  in-known : (m p b s : ℕ) → IsIn m p b s ⊎ (IsIn m p b s → ⊥)
  in-known m p b s =
      elim (owner-known a (owner_at at m s)) [
        | inr n ↦ inr (λ h. n h.0)
        | inl o ↦ elim (same-known (office.period s) p) [
          | inr n ↦ inr (λ h. n h.1)
          | inl e ↦ elim (same-known (office.band s) b) [
            | inr n ↦ inr (λ h. n h.2)
            | inl f ↦ inl (o, e, f)
          ]
        ]
      ]

  -- where the seconds of a class that reach up to one begin
  abbrev Begun : ℕ → ℕ → ℕ → ℕ → ℕ → Type 0
  Begun m p b low t =
      (c : ℕ) × (low ≤ c) × (c ≤ t) × ((k : ℕ) → c ≤ k → k ≤ t → IsIn m p b k) × ((c ≡ low) ⊎ (IsIn m p b (c - 1) → ⊥))

  begun-known : (m p b low t n s : ℕ) → s ≡ low + n → s ≤ t → ((k : ℕ) → s ≤ k → k ≤ t → IsIn m p b k) → Begun m p b low t
  begun-known m p b low t zero s e l h = (s, omega (arith, e), l, h, inl (omega (arith, e)))
  begun-known m p b low t (suc n) s e l h =
      elim (in-known m p b (s - 1)) [
        | inr n0 ↦ (s, omega (arith, e), l, h, inr n0)
        | inl is ↦ begun-known m p b low t n (s - 1) (omega (arith, e)) (omega (arith, l))
            (λ k i j. elim (cases_lt k s) [
              | inl f ↦ (let q : s - 1 ≡ k = omega (arith, i, f, e) in subst (IsIn m p b) q is)
              | inr f ↦ h k f j
            ])
      ]

  -- and where they end
  abbrev Ended : ℕ → ℕ → ℕ → ℕ → ℕ → Type 0
  Ended m p b high t =
      (c : ℕ) × (t < c) × (c ≤ high) × ((k : ℕ) → t ≤ k → k < c → IsIn m p b k) × ((c ≡ high) ⊎ (IsIn m p b c → ⊥))

  ended-known : (m p b high t n s : ℕ) → s + n ≡ high → t < s → ((k : ℕ) → t ≤ k → k < s → IsIn m p b k) → Ended m p b high t
  ended-known m p b high t zero s e l h = (s, l, omega (arith, e), h, inl (omega (arith, e)))
  ended-known m p b high t (suc n) s e l h =
      elim (in-known m p b s) [
        | inr n0 ↦ (s, l, omega (arith, e), h, inr n0)
        | inl is ↦ ended-known m p b high t n (s + 1) (omega (arith, e)) (omega (arith, l))
            (λ k i j. elim (cases_lt k s) [
              | inl f ↦ h k i f
              | inr f ↦ (let q : s ≡ k = omega (arith, j, f) in subst (IsIn m p b) q is)
            ])
      ]

  abbrev Found : ℕ → Register → ℕ → Type 0
  Found m r t = (row : WhyRow) × IsRun row × (row.meter ≡ m) × (row.register ≡ r) × Holds row t

  -- a second of the account in the interval, between neighbours that don't fall, is in one
  run-there : (m : ℕ) (r : Register) (t f l u h : ℕ) → IsSpanned (point at m r) office.end t f l u h → l ≤ h → m < office.meters →
      office.counts m r ≡ true → x ≤ t → t < y → owner_at at m t ≡ Some (account a) → Found m r t
  run-there m r t f l u h pair up own counting g k o =
      let p : ℕ = office.period t in
      let b : ℕ = office.band t in
      let is : IsIn m p b t = (o, refl, refl) in
      let low = later-known f x t pair.begun g in
      let high = sooner-known u y t pair.under_way k in
      let begun : Begun m p b low.0 t
      = begun-known m p b low.0 t (t - low.0) t (let e = low.3 in omega (arith, e)) (omega arith)
      (λ s i j. (let q : t ≡ s = omega (arith, i, j) in subst (IsIn m p b) q is)) in
      let ended : Ended m p b high.0 t
      = ended-known m p b high.0 t (high.0 - (t + 1)) (t + 1) (let e = high.3 in omega (arith, e)) (omega arith)
      (λ s i j. (let q : t ≡ s = omega (arith, i, j) in subst (IsIn m p b) q is)) in
      let wh : ℕ = level f l u h ended.0 - level f l u h begun.0 in
      let row : WhyRow = made m r f l u h begun.0 ended.0 p b wh (office.price p b (direction_of r) * wh) in
      let d0 = begun.1 in
      let d1 = begun.2 in
      let d2 = ended.1 in
      let d3 = ended.2 in
      let f0 = low.1 in
      let x0 = low.2 in
      let u0 = high.1 in
      let y0 = high.2 in (
        row,
        record {
          meter = own;
          counts = counting;
          neighbours = pair.neighbours;
          rising = up;
          seen = pair.seen;
          piece = (omega (arith, f0, d0), omega (arith, d1, d2), omega (arith, d3, u0));
          within = (omega (arith, x0, d0), omega (arith, d3, y0));
          of_class = λ s i j. elim (cases_lt s t) [ inl q ↦ begun.3 s i (omega (arith, q)) | inr q ↦ ended.3 s q j ];
          first = elim begun.4 [
            | inr n ↦ inr (inr n)
            | inl e ↦ elim low.4 [ inl q ↦ inl (e ∙ q) | inr q ↦ inr (inl (e ∙ q)) ]
          ];
          last = elim ended.4 [
            | inr n ↦ inr (inr n)
            | inl e ↦ elim high.4 [ inl q ↦ inl (e ∙ q) | inr q ↦ inr (inl (e ∙ q)) ]
          ];
          given = refl;
          cost = refl;
        },
        refl,
        refl,
        (d1, d2),
      )

  -- ---- of each second the row that begins there, if one does
  abbrev Of : ℕ × Register × ℕ → WhyRow → Type 0
  Of c row = (row.meter ≡ c.0) × (row.register ≡ c.1) × (row.begin ≡ c.2)

  abbrev Known : ℕ → Register → ℕ → Type 0
  Known m r t = Gives (IsWhyRow office at a x y) Of (m, r, t)

  holds-begin : (v : WhyRow) (t : ℕ) → IsRun v → v.begin ≡ t → Holds v t
  holds-begin v t h e = (omega (arith, e), (let p = h.piece.1 in omega (arith, p, e)))

  span-of : (v : WhyRow) (m : ℕ) (r : Register) (t : ℕ) → IsRun v → Of (m, r, t) v →
      IsSpanned (point at m r) office.end t v.from v.low v.to v.high
  span-of v m r t h o =
      let P : (ℕ → Option ℕ) → Type 0 = λ p. IsSpanned p office.end t v.from v.low v.to v.high in
      subst P (λ i. point at (o.0 i) (o.1 i)) (spanned v t h (holds-begin v t h o.2))

  known-run : (m : ℕ) (r : Register) (t : ℕ) → Found m r t → Known m r t
  known-run m r t f =
      let row : WhyRow = f.0 in
      let same : (v : WhyRow) → IsWhyRow office at a x y v → Of (m, r, t) v → v ≡ row
      = λ v h o. run-one v row (run-of v h) f.1 (o.0 ∙ sym f.2) (o.1 ∙ sym f.3) t (holds-begin v t (run-of v h) o.2) f.4 in
      elim (cases_lt 0 row.wh) [
        | inr z ↦ inr (λ v h o. (
            let s = h.something in
            let e : v.wh ≡ row.wh = ap (λ (q : WhyRow). q.wh) (same v h o) in
            omega (arith, s, e, z)))
        | inl w ↦ elim (same-known row.begin t) [
          | inr n ↦ inr (λ v h o. n (ap (λ (q : WhyRow). q.begin) (sym (same v h o)) ∙ o.2))
          | inl e ↦ inl (row, row-of row f.1 w, (f.2, f.3, e), same)
        ]
      ]

  known-span : (m : ℕ) (r : Register) (t f l u h : ℕ) → IsSpanned (point at m r) office.end t f l u h → m < office.meters →
      office.counts m r ≡ true → x ≤ t → t < y → owner_at at m t ≡ Some (account a) → Known m r t
  known-span m r t f l u h pair own counting g k o =
      elim (cases_lt h l) [
        | inr up ↦ known-run m r t (run-there m r t f l u h pair up own counting g k o)
        | inl down ↦ inr (λ v w of. (
            let q = round-one (point at m r) office.end t v.from v.low v.to v.high f l u h (span-of v m r t (run-of v w) of) pair in
            let low = q.1 in
            let high = q.3 in
            let up = w.rising in
            omega (arith, down, low, high, up)))
      ]

  known-there : (m : ℕ) (r : Register) (t : ℕ) → m < office.meters → office.counts m r ≡ true → x ≤ t → t < y → Known m r t
  known-there m r t own counting g k =
      elim (owner-known a (owner_at at m t)) [
        | inr n ↦ inr (λ v h o. (
            let here = (h.of_class v.begin (omega arith) h.piece.1).0 in
            n (ap (λ (i : ℕ). owner_at at i t) (sym o.0) ∙ ap (λ (i : ℕ). owner_at at v.meter i) (sym o.2) ∙ here)))
        | inl o ↦ elim (round-known (point at m r) office.end t) [
          | inr n ↦ inr (λ v h of. n v.from v.low v.to v.high (span-of v m r t (run-of v h) of))
          | inl s ↦ known-span m r t s.0.0 s.0.1 s.0.2 s.0.3 s.1 own counting g k o
        ]
      ]

  known : (c : ℕ × Register × ℕ) → Gives (IsWhyRow office at a x y) Of c
  known c =
      elim (cases_lt c.0 office.meters) [
        | inr n ↦ inr (λ v h o. (let i = h.meter in let e = o.0 in omega (arith, n, i, e)))
        | inl own ↦ elim (cases_Bool (office.counts c.0 c.1)) [
          | inr n ↦ inr (λ v h o. true≢false (sym h.counts ∙ (λ i. office.counts (o.0 i) (o.1 i)) ∙ n))
          | inl counting ↦ elim (cases_lt c.2 x) [
            | inl n ↦ inr (λ v h o. (let i = h.within.0 in let e = o.2 in omega (arith, n, i, e)))
            | inr g ↦ elim (cases_lt c.2 y) [
              | inr n ↦ inr (λ v h o. (let i = h.within.1 in let j = h.piece.1 in let e = o.2 in omega (arith, n, i, j, e)))
              | inl k ↦ known-there c.0 c.1 c.2 own counting g k
            ]
          ]
        ]
      ]

  -- ---- all of them
  row-tie : (v w : WhyRow) → IsWhyRow office at a x y v → IsWhyRow office at a x y w → row_order v w ≡ Equal → v ≡ w
  row-tie v w h g e =
      let n = numbers-are v w (numbers-tie (row_numbers v) (row_numbers w) e) in
      run-one v w (run-of v h) (run-of w g) n.0 (register-one v.register w.register n.1) w.begin
      (holds-begin v w.begin (run-of v h) n.2) (holds-begin w w.begin (run-of w g) refl)

  listed : (rows : List WhyRow) × Lists row_order (IsWhyRow office at a x y) rows
  listed =
      all-gathered row_order (on_total row_numbers nat_list_cmp_total) (IsWhyRow office at a x y) Of row-tie known
      (all_seconds office.meters y)
      (λ v h. (
        (v.meter, v.register, v.begin),
        second-there office.meters y v.meter v.register v.begin h.meter
            (let i = h.within.1 in let j = h.piece.1 in omega (arith, i, j)),
        (refl, refl, refl),
      ))

  -- ---- such a list is the rows of why
  is-covered : (v : WhyRow) (m : ℕ) (r : Register) (t : ℕ) → covers m r t v ≡ true → (v.meter ≡ m) × (v.register ≡ r) × Holds v t
  is-covered v m r t h =
      let p = and_parts ((v.meter == m) && same_register v.register r) (lies_in v.begin v.until t) h in
      let q = and_parts (v.meter == m) (same_register v.register r) p.0 in
      let l = and_parts (nat_le v.begin t) (nat_lt t v.until) p.1 in
      (eqb-true v.meter m q.0, register-one v.register r (eqb-true (register_place v.register) (register_place r) q.1), (leb-true v.begin t l.0, ltb-true t v.until l.1))

  covered-one : (v w : WhyRow) (m : ℕ) (r : Register) (t : ℕ) → IsWhyRow office at a x y v → IsWhyRow office at a x y w →
      covers m r t v ≡ true → covers m r t w ≡ true → v ≡ w
  covered-one v w m r t h g i j =
      let c = is-covered v m r t i in
      let d = is-covered w m r t j in
      run-one v w (run-of v h) (run-of w g) (c.0 ∙ sym d.0) (c.1 ∙ sym d.1) t c.2 d.2

  -- what gives nothing carries nothing
  still : (v : WhyRow) (t : ℕ) → IsRun v → v.wh ≤ 0 → Holds v t → pair_flow (v.from, v.low) (v.to, v.high) t ≡ 0
  still v t h z i =
      let e = h.neighbours.earlier in
      let w = h.given in
      let one : level v.from v.low v.to v.high v.begin ≤ level v.from v.low v.to v.high t = level-up v.from v.low v.to v.high v.begin t e i.0 in
      let two : level v.from v.low v.to v.high t ≤ level v.from v.low v.to v.high (t + 1) = level-up v.from v.low v.to v.high t (t + 1) e (omega arith) in
      let three : level v.from v.low v.to v.high (t + 1) ≤ level v.from v.low v.to v.high v.until = level-up v.from v.low v.to v.high (t + 1) v.until e (omega (arith, i)) in
      let f = pair_flow-is v.from v.low v.to v.high t h.rising in
      omega (arith, w, z, one, two, three, f)

  abbrev Carried : List WhyRow → ℕ → Register → ℕ → Type 0
  Carried rows m r t = (flow (point at m r) office.end t ≡ 0) ⊎ ((row : WhyRow) × Member row rows × (covers m r t row ≡ true))

  carried-run : (rows : List WhyRow) → Lists row_order (IsWhyRow office at a x y) rows → (m : ℕ) (r : Register) (t : ℕ) → Found m r t →
      Carried rows m r t
  carried-run rows l m r t f =
      let row : WhyRow = f.0 in
      elim (cases_lt 0 row.wh) [
        | inr z ↦ (
            let P : (ℕ → Option ℕ) → Type 0 = λ p. flow p office.end t ≡ 0 in
            let Q : (ℕ → Option ℕ) → Type 0 = λ p. IsSpanned p office.end t row.from row.low row.to row.high in
            let s : IsSpanned (point at m r) office.end t row.from row.low row.to row.high
            = subst Q (λ i. point at (f.2 i) (f.3 i)) (spanned row t f.1 f.4) in
            inl (flow-spanned (point at m r) office.end t row.from row.low row.to row.high s ∙ still row t f.1 z f.4))
        | inl w ↦ inr (
          row,
          (l.members row).1 (row-of row f.1 w),
          (
              let place : register_place row.register ≡ register_place r = ap register_place f.3 in
              rw (eq-eqb row.meter m f.2, eq-eqb (register_place row.register) (register_place r) place, le-leb row.begin t f.4.0, lt-ltb t row.until f.4.1) refl),
        )
      ]

  all-carried : (rows : List WhyRow) → Lists row_order (IsWhyRow office at a x y) rows → (m : ℕ) (r : Register) (t : ℕ) → m < office.meters →
      office.counts m r ≡ true → x ≤ t → t < y → owner_at at m t ≡ Some (account a) → Carried rows m r t
  all-carried rows l m r t own counting g k o =
      elim (round-known (point at m r) office.end t) [
        | inr n ↦ inl (flow-unspanned (point at m r) office.end t n)
        | inl s ↦ elim (cases_lt s.0.3 s.0.1) [
          | inl down ↦ inl (flow-spanned (point at m r) office.end t s.0.0 s.0.1 s.0.2 s.0.3 s.1 ∙ pair_flow-fall s.0.0 s.0.1 s.0.2 s.0.3 t down)
          | inr up ↦ carried-run rows l m r t (run-there m r t s.0.0 s.0.1 s.0.2 s.0.3 s.1 up own counting g k o)
        ]
      ]

  rows-are : (rows : List WhyRow) → Lists row_order (IsWhyRow office at a x y) rows → AreWhyRows office at a x y rows
  rows-are rows l = record {
    in_order = l.rising;
    each = λ row m. (l.members row).0 m;
    once = λ m r t. each-once (covers m r t) rows l.rising
        (λ v w i j. covered-one v w m r t ((l.members v).0 i) ((l.members w).0 j));
    all = all-carried rows l;
  }

  -- ---- and the rows of why are such a list: each row has a second that carries something
  rise-there : (f l u h : ℕ) → f < u → l ≤ h → (n s : ℕ) → level f l u h s < level f l u h (s + n) →
      (t : ℕ) × (s ≤ t) × (t < s + n) × (0 < pair_flow (f, l) (u, h) t)
  rise-there f l u h e up zero s r =
      let z : s + 0 ≡ s = omega arith in
      let P : ℕ → Type 0 = λ k. level f l u h s < level f l u h k in
      let g = subst P z r in
      absurd (omega (arith, g))
  rise-there f l u h e up (suc n) s r =
      elim (cases_lt (level f l u h s) (level f l u h (s + 1))) [
        | inl k ↦ (let q = pair_flow-is f l u h s up in (s, omega arith, omega arith, omega (arith, k, q)))
        | inr k ↦ (
            let z : s + suc n ≡ s + 1 + n = omega arith in
            let P : ℕ → Type 0 = λ q. level f l u h s < level f l u h q in
            let g : level f l u h s < level f l u h (s + 1 + n) = subst P z r in
            let d = rise-there f l u h e up n (s + 1) (omega (arith, g, k)) in
            let one = d.1 in
            let two = d.2 in
            (d.0, omega (arith, one), omega (arith, two), d.3))
      ]

  row-stands : (rows : List WhyRow) → AreWhyRows office at a x y rows → (v : WhyRow) → IsWhyRow office at a x y v → Member v rows
  row-stands rows h v w =
      let p0 = w.piece.0 in
      let p1 = w.piece.1 in
      let p2 = w.piece.2 in
      let i0 = w.within.0 in
      let i1 = w.within.1 in
      let some = w.something in
      let given = w.given in
      let z : v.begin + (v.until - v.begin) ≡ v.until = omega (arith, p1) in
      let P : ℕ → Type 0 = λ n. level v.from v.low v.to v.high v.begin < level v.from v.low v.to v.high n in
      let d = rise-there v.from v.low v.to v.high w.neighbours.earlier w.rising (v.until - v.begin) v.begin (subst P (sym z) (omega (arith, some, given))) in
      let t : ℕ = d.0 in
      let one = d.1 in
      let two = d.2 in
      let three = d.3 in
      let in_piece : Holds v t = (one, omega (arith, two, z)) in
      let s = flow-spanned (point at v.meter v.register) office.end t v.from v.low v.to v.high (spanned v t (run-of v w) in_piece) in
      let own = (w.of_class t in_piece.0 in_piece.1).0 in
      elim (h.all v.meter v.register t w.meter w.counts (omega (arith, i0, one)) (omega (arith, i1, two, z)) own) [
        | inl none ↦ absurd (omega (arith, none, s, three))
        | inr q ↦ (
            let c = is-covered q.0 v.meter v.register t q.2 in
            let e : v ≡ q.0 = run-one v q.0 (run-of v w) (run-of q.0 (h.each q.0 q.1)) (sym c.0) (sym c.1) t in_piece c.2 in
            let Q : WhyRow → Type 0 = λ k. Member k rows in
            subst Q (sym e) q.1)
      ]

  are-listed : (rows : List WhyRow) → AreWhyRows office at a x y rows → Lists row_order (IsWhyRow office at a x y) rows
  are-listed rows h = record {
    rising = h.in_order;
    members = λ row. (λ m. h.each row m, λ w. row-stands rows h row w);
  }

  pub why-exists : (rows : List WhyRow) × AreWhyRows office at a x y rows
  why-exists = (listed.0, rows-are listed.0 listed.1)

  pub why-one : (rows others : List WhyRow) → AreWhyRows office at a x y rows → AreWhyRows office at a x y others → rows ≡ others
  why-one rows others h g =
      lists-one row_order (by-numbers row_numbers) (IsWhyRow office at a x y) (IsWhyRow office at a x y) (λ v. (λ w. w, λ w. w)) rows others
      (are-listed rows h) (are-listed others g)
