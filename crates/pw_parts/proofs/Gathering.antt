-- Energy gathered by total.
use Rattle.std.proofs.Common.{◌≡◌, ◌==◌, ◌&&◌, ℕ, zero, suc, ◌+◌, ◌<◌, ◌≤◌, Bool, true, false, cond, Option, Some, None, List, [], ◌∷◌, length, drop, get_or, refl, ap, sym, ◌∙◌, arith, inl, inr}
use Rattle.std.specs.BTreeMap.{BTreeMap, Updates, get}
use Rattle.std.specs.List.{sum_by}
use Rattle.std.specs.Ordering.{is_eq}
use Rattle.std.proofs.lemmas.Bool.{cases_Bool, true≢false, eq-eqb, eqb-true}
use Rattle.std.proofs.lemmas.List.Sums.{sum_by-cons}
use Rattle.std.proofs.Math.Seq.{drop-nil}
use Rattle.pw_tariff.specs.declared.ids.AccountId.{AccountId}
use Rattle.pw_tariff.specs.declared.ids.BandId.{BandId}
use Rattle.pw_tariff.specs.declared.ids.PeriodId.{PeriodId}
use Rattle.pw_tariff.specs.declared.ids.Direction.{Direction}
use Rattle.pw_tariff.specs.declared.ids.Direction.TheVariants.{Import, Export}
use Rattle.pw_tariff.specs.declared.cells.Cell.{Cell}
use Rattle.pw_tariff.specs.Cells.{owner_place, IsBeforeTariff, IsBeforeCell, AreInOrder, is_of, energy_in, energy_of_all}
use Rattle.pw_tariff.specs.Owners.{same_owner}
use Rattle.pw_model.specs.declared.records.TotalKey.{TotalKey}
use Rattle.pw_model.specs.declared.records.TotalKey.TheVariants.{Energy, TopUps}
use Rattle.pw_model.specs.Same.{direction_place, same_direction, same_total, total_key_order}
use Rattle.pw_parts.specs.declared.changes.Change.{Change}
use Rattle.pw_parts.specs.declared.changes.Side.{Side}
use Rattle.pw_obis.specs.declared.energy.TheConstants.{LARGEST_WATT_HOURS}
use Rattle.pw_tariff.specs.Office.{OfficeFile}
use Rattle.pw_tariff.specs.Shares.{class_seconds}
use Rattle.pw_parts.specs.Changes.{amount_on, amount_told, gathered, pairs_for}
use Rattle.pw_parts.specs.inner.Given.{cells_for}
use Rattle.pw_parts.proofs.Chart.{pairs-ended}
use Rattle.pw_model.proofs.TotalKeys.{same_total-decides, total-apart, total-itself, total-tested}

-- ---- one energy more
chosen : (side : Side) (b : Bool) (c : Change) (o : Option Change) → amount_told side (cond b (Some c) o) ≡ cond b (amount_on side c) (amount_told side o)
chosen side true c o = refl
chosen side false c o = refl

changed : (side : Side) (old new : BTreeMap TotalKey Change) (k : TotalKey) (c : Change) → Updates total_key_order old new k (Some c) → (l : TotalKey) → gathered side new l ≡ cond (same_total k l) (amount_on side c) (gathered side old l)
changed side old new k c h l = ap (amount_told side) (h.0 l)
    ∙ chosen side (is_eq (total_key_order k l)) c (get total_key_order old l)
    ∙ ap (λ (b : Bool). cond b (amount_on side c) (gathered side old l)) (total-tested k l)

-- a total has so much more on a side
pub gathered-more : (side : Side) (old new : BTreeMap TotalKey Change) (k : TotalKey) (c : Change) (wh : ℕ) → amount_on side c ≡ gathered side old k + wh → Updates total_key_order old new k (Some c) → (l : TotalKey) →
    gathered side new l ≡ gathered side old l + cond (same_total k l) wh 0
gathered-more side old new k c wh e h l =
    let g = changed side old new k c h l in
    elim (cases_Bool (same_total k l)) [
      | inl t ↦ (
          let same : gathered side old k ≡ gathered side old l = ap (gathered side old) ((same_total-decides k l).0 t) in
          let d : gathered side new l ≡ amount_on side c = rw t at g in
          rw t (omega (arith, d, e, same)))
      | inr f ↦ (let d : gathered side new l ≡ gathered side old l = rw f at g in rw f (omega (arith, d)))
    ]

-- or as much as before
pub gathered-same : (side : Side) (old new : BTreeMap TotalKey Change) (k : TotalKey) (c : Change) → amount_on side c ≡ gathered side old k → Updates total_key_order old new k (Some c) → (l : TotalKey) →
    gathered side new l ≡ gathered side old l
gathered-same side old new k c e h l =
    let g = changed side old new k c h l in
    elim (cases_Bool (same_total k l)) [
      | inl t ↦ (
          let same : gathered side old k ≡ gathered side old l = ap (gathered side old) ((same_total-decides k l).0 t) in
          let d : gathered side new l ≡ amount_on side c = rw t at g in
          omega (arith, d, e, same))
      | inr f ↦ (let d : gathered side new l ≡ gathered side old l = rw f at g in d)
    ]

-- ---- cells
-- what a cell of a direction gives to a total
abbrev pub cell_for : Direction → TotalKey → Cell → ℕ
cell_for d k c = cond (same_total (Energy c.owner c.period c.band d) k) c.wh 0

same-owner : (o p : Option AccountId) → same_owner o p ≡ true → o ≡ p
same-owner None None h = refl
same-owner None (Some b) h = absurd (true≢false (sym h))
same-owner (Some a) None h = absurd (true≢false (sym h))
same-owner (Some a) (Some b) h = ap (λ n. let x : AccountId = record { 0 = n } in Some x) (eqb-true a.0 b.0 h)

owner-itself : (o : Option AccountId) → same_owner o o ≡ true
owner-itself None = refl
owner-itself (Some a) = eq-eqb a.0 a.0 refl

and-split : (a b : Bool) → (a && b) ≡ true → (a ≡ true) × (b ≡ true)
and-split true b e = (refl, e)
and-split false b e = absurd (true≢false (sym e))

and-both : (a b : Bool) → a ≡ true → b ≡ true → (a && b) ≡ true
and-both a b e f = rw (e, f) refl

abbrev energy_key : Option AccountId → ℕ → ℕ → Direction → TotalKey
energy_key o p b d = Energy o (record { 0 = p }) (record { 0 = b }) d

abbrev owner_in : TotalKey → Option AccountId
owner_in (Energy o p b d) = o
owner_in (TopUps a) = None

abbrev period_in : TotalKey → ℕ
period_in (Energy o p b d) = p.0
period_in (TopUps a) = 0

abbrev band_in : TotalKey → ℕ
band_in (Energy o p b d) = b.0
band_in (TopUps a) = 0

-- what a cell of an owner, a period and a band has
class-split : (o : Option AccountId) (p b : ℕ) (c : Cell) → is_of o p b c ≡ true → (c.owner ≡ o) × (c.period.0 ≡ p) × (c.band.0 ≡ b)
class-split o p b c t =
    let s = and-split (same_owner c.owner o) ((c.period.0 == p) && (c.band.0 == b)) t in
    let r = and-split (c.period.0 == p) (c.band.0 == b) s.1 in
    (same-owner c.owner o s.0, eqb-true c.period.0 p r.0, eqb-true c.band.0 b r.1)

-- the cell is that of the owner, the period and the band exactly where its total is
cell-of : (o : Option AccountId) (p : PeriodId) (b : BandId) (d : Direction) (c : Cell) → is_of o p.0 b.0 c ≡ same_total (Energy c.owner c.period c.band d) (Energy o p b d)
cell-of o p b d c = elim (cases_Bool (same_total (Energy c.owner c.period c.band d) (Energy o p b d))) [
  | inl y ↦ (
      let e = (same_total-decides (Energy c.owner c.period c.band d) (Energy o p b d)).0 y in
      let u : same_owner c.owner o ≡ true = ap (λ k. same_owner (owner_in k) o) e ∙ owner-itself o in
      let v : c.period.0 ≡ p.0 = ap period_in e in
      let w : c.band.0 ≡ b.0 = ap band_in e in
      let x : ((c.period.0 == p.0) && (c.band.0 == b.0)) ≡ true = and-both (c.period.0 == p.0) (c.band.0 == b.0) (eq-eqb c.period.0 p.0 v) (eq-eqb c.band.0 b.0 w) in
      and-both (same_owner c.owner o) ((c.period.0 == p.0) && (c.band.0 == b.0)) u x ∙ sym y)
  | inr n ↦ (elim (cases_Bool (is_of o p.0 b.0 c)) [
    | inl t ↦ (
        let s = class-split o p.0 b.0 c t in
        let e : Energy c.owner c.period c.band d ≡ Energy o p b d = λ i. energy_key (s.0 i) (s.1 i) (s.2 i) d in
        absurd (true≢false (sym ((same_total-decides (Energy c.owner c.period c.band d) (Energy o p b d)).1 e) ∙ n)))
    | inr f ↦ f ∙ sym n
  ])
]

-- cells behind one stand apart from it
tariff-apart : (c : Cell) (p b : ℕ) → IsBeforeTariff c p b → c.period.0 ≡ p → c.band.0 ≡ b → ⊥
tariff-apart c p b (inl l) u v = absurd (omega (arith, l, u))
tariff-apart c p b (inr l) u v = let m = l.1 in absurd (omega (arith, m, v))

class-apart : (c x : Cell) → IsBeforeCell c x → owner_place c.owner ≡ owner_place x.owner → c.period.0 ≡ x.period.0 → c.band.0 ≡ x.band.0 → ⊥
class-apart c x (inl l) u v w = absurd (omega (arith, l, u))
class-apart c x (inr l) u v w = tariff-apart c x.period.0 x.band.0 l.1 v w

before-not : (o : Option AccountId) (p b : ℕ) (c x : Cell) → is_of o p b c ≡ true → IsBeforeCell c x → is_of o p b x ≡ false
before-not o p b c x t h = elim (cases_Bool (is_of o p b x)) [
  | inl y ↦ (
      let s = class-split o p b c t in
      let r = class-split o p b x y in
      absurd (class-apart c x h (ap owner_place (s.0 ∙ sym r.0)) (s.1 ∙ sym r.1) (s.2 ∙ sym r.2)))
  | inr f ↦ f
]

tariff-then : (c x y : Cell) → IsBeforeTariff c x.period.0 x.band.0 → IsBeforeTariff x y.period.0 y.band.0 → IsBeforeTariff c y.period.0 y.band.0
tariff-then c x y (inl a) (inl b) = inl (omega (arith, a, b))
tariff-then c x y (inl a) (inr b) = let p = b.0 in inl (omega (arith, a, p))
tariff-then c x y (inr a) (inl b) = let p = a.0 in inl (omega (arith, p, b))
tariff-then c x y (inr a) (inr b) = let p = a.1 in let q = b.1 in inr (a.0 ∙ b.0, omega (arith, p, q))

before-then : (c x y : Cell) → IsBeforeCell c x → IsBeforeCell x y → IsBeforeCell c y
before-then c x y (inl a) (inl b) = inl (omega (arith, a, b))
before-then c x y (inl a) (inr b) = let p = b.0 in inl (omega (arith, a, p))
before-then c x y (inr a) (inl b) = let p = a.0 in inl (omega (arith, p, b))
before-then c x y (inr a) (inr b) = inr (a.0 ∙ b.0, tariff-then c x y a.1 b.1)

in-order-without : (c x : Cell) (cells : List Cell) → AreInOrder (c ∷ x ∷ cells) → AreInOrder (c ∷ cells)
in-order-without c x [] h = tt
in-order-without c x (y ∷ cells) h = (before-then c x y h.0 h.1.0, h.1.1)

in-order-behind : (c : Cell) (cells : List Cell) → AreInOrder (c ∷ cells) → AreInOrder cells
in-order-behind c [] h = tt
in-order-behind c (x ∷ cells) h = h.1

cells-apart : (o : Option AccountId) (p : PeriodId) (b : BandId) (d : Direction) (c : Cell) (cells : List Cell) → AreInOrder (c ∷ cells) → is_of o p.0 b.0 c ≡ true →
    sum_by (cell_for d (Energy o p b d)) cells ≡ 0
cells-apart o p b d c [] h t = refl
cells-apart o p b d c (x ∷ cells) h t =
    let r = cells-apart o p b d c cells (in-order-without c x cells h) t in
    let e = sum_by-cons (cell_for d (Energy o p b d)) x cells in
    let q : cell_for d (Energy o p b d) x ≡ 0 = ap (λ t. cond t x.wh 0) (sym (cell-of o p b d x) ∙ before-not o p.0 b.0 c x t h.0) in
    omega (arith, r, e, q)

-- cells in order give what is found among them
cells-in : (o : Option AccountId) (p : PeriodId) (b : BandId) (d : Direction) (cells : List Cell) → AreInOrder cells → sum_by (cell_for d (Energy o p b d)) cells ≡ energy_in cells o p.0 b.0
unfolding energy_in
cells-in o p b d [] h = refl
cells-in o p b d (c ∷ cells) h =
    let e = sum_by-cons (cell_for d (Energy o p b d)) c cells in
    elim (cases_Bool (is_of o p.0 b.0 c)) [
      | inl y ↦ (
          let r = cells-apart o p b d c cells h y in
          let q : cell_for d (Energy o p b d) c ≡ c.wh = ap (λ t. cond t c.wh 0) (sym (cell-of o p b d c) ∙ y) in
          rw y (omega (arith, e, r, q)))
      | inr n ↦ (
          let r = cells-in o p b d cells (in-order-behind c cells h) in
          let q : cell_for d (Energy o p b d) c ≡ 0 = ap (λ t. cond t c.wh 0) (sym (cell-of o p b d c) ∙ n) in
          rw n (omega (arith, e, r, q)))
    ]

-- of another kind they give nothing
cells-other : (d : Direction) (k : TotalKey) (cells : List Cell) → ((c : Cell) → same_total (Energy c.owner c.period c.band d) k ≡ false) → sum_by (cell_for d k) cells ≡ 0
cells-other d k [] h = refl
cells-other d k (c ∷ cells) h =
    let r = cells-other d k cells h in
    let e = sum_by-cons (cell_for d k) c cells in
    let q : cell_for d k c ≡ 0 = ap (λ t. cond t c.wh 0) (h c) in
    omega (arith, r, e, q)

abbrev direction_in : TotalKey → ℕ
direction_in (Energy o p b d) = direction_place d
direction_in (TopUps a) = 7

pub cells-give : (d : Direction) (k : TotalKey) (cells : List Cell) → AreInOrder cells → sum_by (cell_for d k) cells ≡ cells_for d cells k
cells-give Import (Energy o p b Import) cells h = cells-in o p b Import cells h
cells-give Export (Energy o p b Export) cells h = cells-in o p b Export cells h
cells-give Import (Energy o p b Export) cells h = cells-other Import (Energy o p b Export) cells (λ c. total-apart (Energy c.owner c.period c.band Import) (Energy o p b Export) (λ e. let n = ap direction_in e in absurd (omega (arith, n))))
cells-give Export (Energy o p b Import) cells h = cells-other Export (Energy o p b Import) cells (λ c. total-apart (Energy c.owner c.period c.band Export) (Energy o p b Import) (λ e. let n = ap direction_in e in absurd (omega (arith, n))))
cells-give Import (TopUps a) cells h = cells-other Import (TopUps a) cells (λ c. total-apart (Energy c.owner c.period c.band Import) (TopUps a) (λ e. let n = ap direction_in e in absurd (omega (arith, n))))
cells-give Export (TopUps a) cells h = cells-other Export (TopUps a) cells (λ c. total-apart (Energy c.owner c.period c.band Export) (TopUps a) (λ e. let n = ap direction_in e in absurd (omega (arith, n))))

-- all of them together
pub cells-whole : (cells : List Cell) → sum_by (λ (c : Cell). c.wh) cells ≡ energy_of_all cells
unfolding energy_of_all
cells-whole [] = refl
cells-whole (c ∷ cells) = let r = cells-whole cells in let e = sum_by-cons (λ (x : Cell). x.wh) c cells in omega (arith, r, e)

-- ---- how much
cell-part : (d : Direction) (k : TotalKey) (c : Cell) → cell_for d k c ≤ c.wh
cell-part d k c = elim (cases_Bool (same_total (Energy c.owner c.period c.band d) k)) [ inl y ↦ rw y (omega arith) | inr n ↦ rw n (omega arith) ]

cells-part : (d : Direction) (k : TotalKey) (cells : List Cell) → sum_by (cell_for d k) cells ≤ sum_by (λ (c : Cell). c.wh) cells
cells-part d k [] = omega arith
cells-part d k (c ∷ cells) =
    let r = cells-part d k cells in
    let a = sum_by-cons (cell_for d k) c cells in
    let b = sum_by-cons (λ (x : Cell). x.wh) c cells in
    let w = cell-part d k c in
    omega (arith, r, a, b, w)

-- a total gets no more than all together
pub cells-bound : (d : Direction) (k : TotalKey) (cells : List Cell) → AreInOrder cells → cells_for d cells k ≤ energy_of_all cells
cells-bound d k cells h =
    let g = cells-give d k cells h in
    let p = cells-part d k cells in
    let w = cells-whole cells in
    omega (arith, g, p, w)

-- ---- one cell after the other
cell-itself : (d : Direction) (c : Cell) → cell_for d (Energy c.owner c.period c.band d) c ≡ c.wh
cell-itself d c = ap (λ b. cond b c.wh 0) (total-itself (Energy c.owner c.period c.band d))

cell-here : (d : Direction) (cells : List Cell) (i : ℕ) (x : Cell) → i < length cells → (get_or cells i x).wh ≤ sum_by (cell_for d (Energy (get_or cells i x).owner (get_or cells i x).period (get_or cells i x).band d)) (drop i cells)
cell-here d [] i x l = absurd (omega (arith, l))
cell-here d (c ∷ cells) zero x l =
    let a = sum_by-cons (cell_for d (Energy c.owner c.period c.band d)) c cells in
    let b = cell-itself d c in
    omega (arith, a, b)
cell-here d (c ∷ cells) (suc i) x l = cell-here d cells i x (omega (arith, l))

pub cell-fits : (d : Direction) (cells : List Cell) (i : ℕ) (x : Cell) (now was most : ℕ) → i < length cells →
    let k : TotalKey = Energy (get_or cells i x).owner (get_or cells i x).period (get_or cells i x).band d in
    now + sum_by (cell_for d k) (drop i cells) ≡ was + sum_by (cell_for d k) cells → was + energy_of_all cells < most → now + (get_or cells i x).wh < most
cell-fits d cells i x now was most l e f =
    let h = cell-here d cells i x l in
    let p = cells-part d (Energy (get_or cells i x).owner (get_or cells i x).period (get_or cells i x).band d) cells in
    let w = cells-whole cells in
    omega (arith, e, f, h, p, w)

none-left : (X : Type 0) (f : X → ℕ) (xs : List X) (i : ℕ) → length xs ≤ i → sum_by f (drop i xs) ≡ 0
none-left X f [] i l = rw (drop-nil i) refl
none-left X f (x ∷ xs) zero l = absurd (omega (arith, l))
none-left X f (x ∷ xs) (suc i) l = none-left X f xs i (omega (arith, l))

pub cells-ended : (d : Direction) (k : TotalKey) (cells : List Cell) (i now was : ℕ) → AreInOrder cells → length cells ≤ i →
    now + sum_by (cell_for d k) (drop i cells) ≡ was + sum_by (cell_for d k) cells → now ≡ was + cells_for d cells k
cells-ended d k cells i now was h l e =
    let n = none-left Cell (cell_for d k) cells i l in
    let g = cells-give d k cells h in
    omega (arith, e, n, g)

-- ---- no cells, no pairs
pub none-in-all : (cells : List Cell) → cells ≡ [] → energy_of_all cells ≤ LARGEST_WATT_HOURS
unfolding energy_of_all
none-in-all cells e = rw e (omega arith)

pub none-for : (cells : List Cell) (o : Option AccountId) (p b : ℕ) → cells ≡ [] → energy_in cells o p b ≡ 0
unfolding energy_in
none-for cells o p b e = ap (λ (xs : List Cell). energy_in xs o p b) e

-- where no window of two is left, no pair is
pub pairs-ended-for : (office : OfficeFile) (owners : List (ℕ × Option AccountId)) (d : Direction) (rest : List (ℕ × ℕ)) (k : TotalKey) → length rest < 2 → pairs_for office owners d rest k ≡ 0
pairs-ended-for office owners d rest (TopUps a) l = refl
pairs-ended-for office owners d rest (Energy o p b e) l =
    ap (λ n. cond (same_direction d e) n 0) (pairs-ended (class_seconds office owners o p.0 b.0) rest l) ∙ none-kept (same_direction d e)
  where
    none-kept : (b : Bool) → let n : ℕ = cond b 0 0 in n ≡ 0
    none-kept true = refl
    none-kept false = refl
