-- One share more among the cells.
use Rattle.std.proofs.Common.{◌≡◌, ◌==◌, ℕ, zero, suc, ◌+◌, ◌<◌, ◌≤◌, Option, Some, None, List, [], ◌∷◌, length, get_or, set, Bool, true, false, cond, refl, sym, ◌∙◌, ap, subst, arith, inl, inr, IsTrue}
use Rattle.std.specs.List.{insert}
use Rattle.std.proofs.lemmas.Bool.{cases_lt, cases_eq, eq-eqb, ne_eqb}
use Rattle.pw_tariff.specs.declared.ids.AccountId.{AccountId}
use Rattle.pw_tariff.specs.declared.cells.Cell.{Cell}
use Rattle.pw_tariff.specs.Owners.{same_owner}
use Rattle.pw_tariff.specs.Cells.{owner_place, IsBeforeTariff, IsBeforeCell, AreInOrder, AreAboveZero, is_of, energy_in, energy_of_all}
use Rattle.pw_tariff.specs.inner.Shares.{IsAdded}

-- ---- whose cell it is
same-place : (a b : Option AccountId) → same_owner a b ≡ (owner_place a == owner_place b)
same-place None None = refl
same-place None (Some b) = let n : 0 ≡ b.0 + 1 → ⊥ = λ e. absurd (omega arith) in sym (ne_eqb 0 (b.0 + 1) n)
same-place (Some a) None = let n : a.0 + 1 ≡ 0 → ⊥ = λ e. absurd (omega arith) in sym (ne_eqb (a.0 + 1) 0 n)
same-place (Some a) (Some b) =
    elim (cases_eq a.0 b.0) [
      | inl e ↦ (let f : a.0 + 1 ≡ b.0 + 1 = omega arith in rw (eq-eqb a.0 b.0 e, eq-eqb (a.0 + 1) (b.0 + 1) f))
      | inr d ↦ (let f : a.0 + 1 ≡ b.0 + 1 → ⊥ = λ e. d (omega arith) in rw (ne_eqb a.0 b.0 d, ne_eqb (a.0 + 1) (b.0 + 1) f))
    ]

pub is-of : (o : Option AccountId) (p b : ℕ) (c : Cell) → owner_place c.owner ≡ owner_place o → c.period.0 ≡ p → c.band.0 ≡ b → is_of o p b c ≡ true
is-of o p b c h k l = rw (same-place c.owner o, eq-eqb _ _ h, eq-eqb _ _ k, eq-eqb _ _ l)

pub is-not : (o : Option AccountId) (p b : ℕ) (c : Cell) → (owner_place c.owner ≡ owner_place o → c.period.0 ≡ p → c.band.0 ≡ b → ⊥) → is_of o p b c ≡ false
is-not o p b c h =
    elim (cases_eq (owner_place c.owner) (owner_place o)) [
      | inr d ↦ rw (same-place c.owner o, ne_eqb _ _ d)
      | inl e ↦ elim (cases_eq c.period.0 p) [
        | inr d ↦ rw (same-place c.owner o, eq-eqb _ _ e, ne_eqb c.period.0 p d)
        | inl f ↦ rw (same-place c.owner o, eq-eqb _ _ e, eq-eqb _ _ f, ne_eqb c.band.0 b (h e f))
      ]
    ]

pub data IsOf (o : Option AccountId) (p b : ℕ) (c : Cell) : Type 0 where
  here : is_of o p b c ≡ true → owner_place c.owner ≡ owner_place o → c.period.0 ≡ p → c.band.0 ≡ b → IsOf o p b c
  other : is_of o p b c ≡ false → (owner_place c.owner ≡ owner_place o → c.period.0 ≡ p → c.band.0 ≡ b → ⊥) → IsOf o p b c

pub whose : (o : Option AccountId) (p b : ℕ) (c : Cell) → IsOf o p b c
whose o p b c =
    elim (cases_eq (owner_place c.owner) (owner_place o)) [
      | inr d ↦ other (is-not o p b c (λ e f g. d e)) (λ e f g. d e)
      | inl e ↦ elim (cases_eq c.period.0 p) [
        | inr d ↦ other (is-not o p b c (λ x f g. d f)) (λ x f g. d f)
        | inl f ↦ elim (cases_eq c.band.0 b) [
          | inl g ↦ here (is-of o p b c e f g) e f g
          | inr d ↦ other (is-not o p b c (λ x y g. d g)) (λ x y g. d g)
        ]
      ]
    ]

-- ---- the order
tariff-differs : (c d : Cell) → IsBeforeTariff c d.period.0 d.band.0 → c.period.0 ≡ d.period.0 → c.band.0 ≡ d.band.0 → ⊥
tariff-differs c d (inl h) f g = absurd (omega arith)
tariff-differs c d (inr h) f g = let k : c.band.0 < d.band.0 = h.1 in absurd (omega arith)

differs : (c d : Cell) → IsBeforeCell c d → owner_place c.owner ≡ owner_place d.owner → c.period.0 ≡ d.period.0 → c.band.0 ≡ d.band.0 → ⊥
differs c d (inl h) e f g = absurd (omega arith)
differs c d (inr h) e f g = tariff-differs c d h.1 f g

tariff-follows : (x c b : Cell) → IsBeforeTariff x c.period.0 c.band.0 → IsBeforeTariff c b.period.0 b.band.0 → IsBeforeTariff x b.period.0 b.band.0
tariff-follows x c b (inl h) (inl k) = inl (omega arith)
tariff-follows x c b (inl h) (inr k) = let e = k.0 in inl (omega (arith, h, e))
tariff-follows x c b (inr h) (inl k) = let e = h.0 in inl (omega (arith, k, e))
tariff-follows x c b (inr h) (inr k) = inr (h.0 ∙ k.0, let p : x.band.0 < c.band.0 = h.1 in let q : c.band.0 < b.band.0 = k.1 in omega arith)

follows : (x c b : Cell) → IsBeforeCell x c → IsBeforeCell c b → IsBeforeCell x b
follows x c b (inl h) (inl k) = inl (omega arith)
follows x c b (inl h) (inr k) = let e = k.0 in inl (omega (arith, h, e))
follows x c b (inr h) (inl k) = let e = h.0 in inl (omega (arith, k, e))
follows x c b (inr h) (inr k) = inr (h.0 ∙ k.0, tariff-follows x c b h.1 k.1)

-- what stands neither before a class nor at it stands behind it
tariff-behind : (c x : Cell) → (IsBeforeTariff c x.period.0 x.band.0 → ⊥) → (c.period.0 ≡ x.period.0 → c.band.0 ≡ x.band.0 → ⊥) → IsBeforeTariff x c.period.0 c.band.0
tariff-behind c x n d =
    elim (cases_lt c.period.0 x.period.0) [
      | inl l ↦ absurd (n (inl l))
      | inr g ↦ elim (cases_eq c.period.0 x.period.0) [
        | inr m ↦ inl (let m2 : x.period.0 ≡ c.period.0 → ⊥ = λ e. m (sym e) in omega arith)
        | inl e ↦ elim (cases_lt c.band.0 x.band.0) [
          | inl l ↦ absurd (n (inr (e, l)))
          | inr h ↦ inr (sym e, elim (cases_eq c.band.0 x.band.0) [ inl f ↦ absurd (d e f) | inr f ↦ (let f2 : x.band.0 ≡ c.band.0 → ⊥ = λ z. f (sym z) in omega arith) ])
        ]
      ]
    ]

pub behind : (c x : Cell) → (IsBeforeCell c x → ⊥) → (owner_place c.owner ≡ owner_place x.owner → c.period.0 ≡ x.period.0 → c.band.0 ≡ x.band.0 → ⊥) → IsBeforeCell x c
behind c x n d =
    elim (cases_lt (owner_place c.owner) (owner_place x.owner)) [
      | inl l ↦ absurd (n (inl l))
      | inr g ↦ elim (cases_eq (owner_place c.owner) (owner_place x.owner)) [
        | inr m ↦ inl (let m2 : owner_place x.owner ≡ owner_place c.owner → ⊥ = λ e. m (sym e) in omega arith)
        | inl e ↦ inr (sym e, tariff-behind c x (λ h. n (inr (e, h))) (d e))
      ]
    ]

abbrev FirstBehind : Cell → List Cell → Type 0
FirstBehind x [] = Unit {0}
FirstBehind x (c ∷ cs) = IsBeforeCell x c

order-cons : (x : Cell) (cs : List Cell) → FirstBehind x cs → AreInOrder cs → AreInOrder (x ∷ cs)
order-cons x [] f h = tt
order-cons x (c ∷ cs) f h = (f, h)

pub order-rest : (x : Cell) (cs : List Cell) → AreInOrder (x ∷ cs) → AreInOrder cs
order-rest x [] h = tt
order-rest x (c ∷ cs) h = h.1

order-first : (x : Cell) (cs : List Cell) → AreInOrder (x ∷ cs) → FirstBehind x cs
order-first x [] h = tt
order-first x (c ∷ cs) h = h.0

order-skip : (x c : Cell) (cs : List Cell) → AreInOrder (x ∷ c ∷ cs) → AreInOrder (x ∷ cs)
order-skip x c [] h = tt
order-skip x c (b ∷ cs) h = (follows x c b h.0 h.1.0, h.1.1)

-- a class has nothing behind a cell of its own
pub none-behind : (x : Cell) (cs : List Cell) (o : Option AccountId) (p b : ℕ) → AreInOrder (x ∷ cs) → owner_place x.owner ≡ owner_place o → x.period.0 ≡ p → x.band.0 ≡ b → energy_in cs o p b ≡ 0
unfolding energy_in
none-behind x [] o p b h e f g = refl
none-behind x (c ∷ cs) o p b h e f g =
    let n : is_of o p b c ≡ false = is-not o p b c (λ i j k. differs x c h.0 (e ∙ sym i) (f ∙ sym j) (g ∙ sym k)) in
    rw n (none-behind x cs o p b (order-skip x c cs h) e f g)

-- ---- a cell of a new class
first-insert : (c x : Cell) (cs : List Cell) (k : ℕ) → k ≤ length cs → IsBeforeCell c x → FirstBehind c cs → FirstBehind c (insert cs k x)
first-insert c x cs zero l h f = h
first-insert c x [] (suc k) l h f = absurd (omega arith)
first-insert c x (b ∷ cs) (suc k) l h f = f

abbrev pub AllBefore : List Cell → ℕ → Cell → Type 0
AllBefore cs k x = (j : ℕ) (d : Cell) → j < k → IsBeforeCell (get_or cs j d) x

abbrev pub StandsBehind : List Cell → ℕ → Cell → Type 0
StandsBehind cs k x = (d : Cell) → k < length cs → IsBeforeCell x (get_or cs k d)

all-before-rest : (c x : Cell) (cs : List Cell) (k : ℕ) → AllBefore (c ∷ cs) (suc k) x → AllBefore cs k x
all-before-rest c x cs k h j d l = h (suc j) d (omega arith)

behind-rest : (c x : Cell) (cs : List Cell) (k : ℕ) → StandsBehind (c ∷ cs) (suc k) x → StandsBehind cs k x
behind-rest c x cs k h d l = h d (omega arith)

insert-order : (cs : List Cell) (k : ℕ) (x : Cell) → k ≤ length cs → AllBefore cs k x → StandsBehind cs k x → AreInOrder cs → AreInOrder (insert cs k x)
insert-order [] zero x l b s h = tt
insert-order [] (suc k) x l b s h = absurd (omega arith)
insert-order (c ∷ cs) zero x l b s h = (s c (omega arith), h)
insert-order (c ∷ cs) (suc k) x l b s h =
    let r : AreInOrder (insert cs k x) = insert-order cs k x (omega arith) (all-before-rest c x cs k b) (behind-rest c x cs k s) (order-rest c cs h) in
    order-cons c (insert cs k x) (first-insert c x cs k (omega arith) (b 0 c (omega arith)) (order-first c cs h)) r

insert-above : (cs : List Cell) (k : ℕ) (x : Cell) → k ≤ length cs → 0 < x.wh → AreAboveZero cs → AreAboveZero (insert cs k x)
insert-above cs zero x l p h = (p, h)
insert-above [] (suc k) x l p h = absurd (omega arith)
insert-above (c ∷ cs) (suc k) x l p h = (h.0, insert-above cs k x (omega arith) p h.1)

elim-first : (cs : List Cell) (x : Cell) → StandsBehind cs 0 x → FirstBehind x cs
elim-first [] x s = tt
elim-first (c ∷ cs) x s = s c (omega arith)

insert-energy : (cs : List Cell) (k : ℕ) (x : Cell) (o : Option AccountId) (p b : ℕ) → k ≤ length cs → AllBefore cs k x → StandsBehind cs k x → AreInOrder cs →
    energy_in (insert cs k x) o p b ≡ energy_in cs o p b + cond (is_of o p b x) x.wh 0
unfolding energy_in
insert-energy cs zero x o p b l a s h =
    elim (whose o p b x) [
      | here t e f g ↦ (let z : energy_in cs o p b ≡ 0 = none-behind x cs o p b (order-cons x cs (elim-first cs x s) h) e f g in rw t (omega arith))
      | other t n ↦ rw t (omega arith)
    ]
insert-energy [] (suc k) x o p b l a s h = absurd (omega arith)
insert-energy (c ∷ cs) (suc k) x o p b l a s h =
    elim (whose o p b c) [
      | here t e f g ↦ (
          let n : is_of o p b x ≡ false = is-not o p b x (λ i j m. differs c x (a 0 c (omega arith)) (e ∙ sym i) (f ∙ sym j) (g ∙ sym m)) in
          rw (t, n) (omega arith))
      | other t n ↦ rw t (insert-energy cs k x o p b (omega arith) (all-before-rest c x cs k a) (behind-rest c x cs k s) (order-rest c cs h))
    ]

insert-whole : (cs : List Cell) (k : ℕ) (x : Cell) → k ≤ length cs → energy_of_all (insert cs k x) ≡ energy_of_all cs + x.wh
unfolding energy_of_all
insert-whole cs zero x l = omega arith
insert-whole [] (suc k) x l = absurd (omega arith)
insert-whole (c ∷ cs) (suc k) x l = let e : energy_of_all (insert cs k x) ≡ energy_of_all cs + x.wh = insert-whole cs k x (omega arith) in omega arith

pub inserted : (cs : List Cell) (k : ℕ) (x : Cell) → k ≤ length cs → 0 < x.wh → AllBefore cs k x → StandsBehind cs k x → AreInOrder cs → AreAboveZero cs → IsAdded cs (insert cs k x) x
inserted cs k x l p a s h z = record {
  in_order = insert-order cs k x l a s h;
  above_zero = insert-above cs k x l p z;
  energy = λ o n b. insert-energy cs k x o n b l a s h;
  whole = insert-whole cs k x l;
}

-- ---- more in a cell that stands already
abbrev pub more : Cell → Cell → Cell
more c x = record { owner = c.owner; period = c.period; band = c.band; wh = c.wh + x.wh }

set-first : (b c x : Cell) (cs : List Cell) (k : ℕ) → FirstBehind b cs → k < length cs → c ≡ get_or cs k c → FirstBehind b (set cs k (more c x))
set-first b c x [] k f l e = absurd (omega arith)
set-first b c x (a ∷ cs) zero f l e = rw e f
set-first b c x (a ∷ cs) (suc k) f l e = f

head-same : (a c x : Cell) (cs : List Cell) → c ≡ a → FirstBehind a cs → FirstBehind (more c x) cs
head-same a c x [] e f = tt
head-same a c x (b ∷ cs) e f = let P : Cell → Type 0 = λ y. IsBeforeCell y b in subst P (sym e) f

set-order : (cs : List Cell) (k : ℕ) (c x : Cell) → k < length cs → c ≡ get_or cs k c → AreInOrder cs → AreInOrder (set cs k (more c x))
set-order [] k c x l e h = absurd (omega arith)
set-order (a ∷ cs) zero c x l e h = order-cons (more c x) cs (head-same a c x cs e (order-first a cs h)) (order-rest a cs h)
set-order (a ∷ cs) (suc k) c x l e h = order-cons a (set cs k (more c x)) (set-first a c x cs k (order-first a cs h) (omega arith) e) (set-order cs k c x (omega arith) e (order-rest a cs h))

set-above : (cs : List Cell) (k : ℕ) (c x : Cell) → k < length cs → c ≡ get_or cs k c → 0 < x.wh → AreAboveZero cs → AreAboveZero (set cs k (more c x))
set-above [] k c x l e p h = absurd (omega arith)
set-above (a ∷ cs) zero c x l e p h = (let q : 0 < c.wh + x.wh = omega arith in q, h.1)
set-above (a ∷ cs) (suc k) c x l e p h = (h.0, set-above cs k c x (omega arith) e p h.1)

set-energy : (cs : List Cell) (k : ℕ) (c x : Cell) (o : Option AccountId) (p b : ℕ) → k < length cs → c ≡ get_or cs k c → AllBefore cs k x →
    owner_place c.owner ≡ owner_place x.owner → c.period.0 ≡ x.period.0 → c.band.0 ≡ x.band.0 →
    energy_in (set cs k (more c x)) o p b ≡ energy_in cs o p b + cond (is_of o p b x) x.wh 0
unfolding energy_in
set-energy [] k c x o p b l e a i j m = absurd (omega arith)
set-energy (y ∷ cs) zero c x o p b l e a i j m =
    elim (whose o p b c) [
      | here t q r s ↦ (let u : is_of o p b x ≡ true = is-of o p b x (sym i ∙ q) (sym j ∙ r) (sym m ∙ s) in
          let v : is_of o p b y ≡ true = rw e at t in
          let w : c.wh ≡ y.wh = ap (λ z. z.wh) e in
          rw (t, u, v) (omega arith))
      | other t n ↦ (let u : is_of o p b x ≡ false = is-not o p b x (λ q r s. n (i ∙ q) (j ∙ r) (m ∙ s)) in
          let v : is_of o p b y ≡ false = rw e at t in
          rw (t, u, v) (omega arith))
    ]
set-energy (y ∷ cs) (suc k) c x o p b l e a i j m =
    elim (whose o p b y) [
      | here t q r s ↦ (
          let n : is_of o p b x ≡ false = is-not o p b x (λ u v w. differs y x (a 0 y (omega arith)) (q ∙ sym u) (r ∙ sym v) (s ∙ sym w)) in
          rw (t, n) (omega arith))
      | other t n ↦ rw t (set-energy cs k c x o p b (omega arith) e (all-before-rest y x cs k a) i j m)
    ]

set-whole : (cs : List Cell) (k : ℕ) (c x : Cell) → k < length cs → c ≡ get_or cs k c → energy_of_all (set cs k (more c x)) ≡ energy_of_all cs + x.wh
unfolding energy_of_all
set-whole [] k c x l e = absurd (omega arith)
set-whole (a ∷ cs) zero c x l e = let w : c.wh ≡ a.wh = ap (λ z. z.wh) e in omega arith
set-whole (a ∷ cs) (suc k) c x l e = let w : energy_of_all (set cs k (more c x)) ≡ energy_of_all cs + x.wh = set-whole cs k c x (omega arith) e in omega arith

pub enlarged : (cs : List Cell) (k : ℕ) (c x : Cell) → k < length cs → c ≡ get_or cs k c → 0 < x.wh → AllBefore cs k x →
    owner_place c.owner ≡ owner_place x.owner → c.period.0 ≡ x.period.0 → c.band.0 ≡ x.band.0 → AreInOrder cs → AreAboveZero cs → IsAdded cs (set cs k (more c x)) x
enlarged cs k c x l e p a i j m h z = record {
  in_order = set-order cs k c x l e h;
  above_zero = set-above cs k c x l e p z;
  energy = λ o n b. set-energy cs k c x o n b l e a i j m;
  whole = set-whole cs k c x l e;
}

-- one cell is at most the whole
pub cell-le : (cs : List Cell) (k : ℕ) (c : Cell) → k < length cs → c ≡ get_or cs k c → c.wh ≤ energy_of_all cs
unfolding energy_of_all
cell-le [] k c l e = absurd (omega arith)
cell-le (a ∷ cs) zero c l e = let w : c.wh ≡ a.wh = ap (λ z. z.wh) e in omega arith
cell-le (a ∷ cs) (suc k) c l e = let w : c.wh ≤ energy_of_all cs = cell-le cs k c (omega arith) e in omega arith

-- two reads of one place
pub same-cell : (cs : List Cell) (k : ℕ) (c d : Cell) → k < length cs → c ≡ get_or cs k c → d ≡ get_or cs k d → c ≡ d
same-cell [] k c d l e f = absurd (omega arith)
same-cell (a ∷ cs) zero c d l e f = e ∙ sym f
same-cell (a ∷ cs) (suc k) c d l e f = same-cell cs k c d (omega arith) e f

pub read-cell : (cs : List Cell) (k : ℕ) (c d : Cell) → k < length cs → c ≡ get_or cs k c → c ≡ get_or cs k d
read-cell [] k c d l e = absurd (omega arith)
read-cell (a ∷ cs) zero c d l e = e
read-cell (a ∷ cs) (suc k) c d l e = read-cell cs k c d (omega arith) e

no-truth : true ≡ false → ⊥
no-truth h = cc

-- a test that fails says that what it tests doesn't hold
pub apart-cell : (b : Bool) (P : Type 0) → (P → IsTrue b) → b ≡ false → P → ⊥
apart-cell true P h e p = absurd (no-truth e)
apart-cell false P h e p = no-truth (sym (h p))
