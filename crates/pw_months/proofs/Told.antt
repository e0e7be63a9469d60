-- What goes by what is told of an interval.
use Rattle.std.proofs.Common.{◌≡◌, ℕ, zero, suc, ◌+◌, ◌-◌, ◌*◌, ◌<◌, ◌≤◌, nat_le, nat_lt, Bool, true, false, cond, ◌&&◌, Option, Some, None, List, refl, sym, ap, subst, ◌∙◌, arith, inl, inr, pos}
use Rattle.std.proofs.lemmas.Bool.{and_parts, cases_eq, cases_lt, leb-true, ltb-true}
use Rattle.pw_tariff.specs.declared.ids.AccountId.{AccountId}
use Rattle.pw_tariff.specs.declared.ids.Direction.{Direction}
use Rattle.pw_tariff.specs.declared.ids.Direction.TheVariants.{Import, Export}
use Rattle.pw_tariff.specs.Office.{OfficeRules}
use Rattle.pw_flow.specs.Time.{last, next}
use Rattle.pw_flow.specs.Flow.{flow, flow_between, pair_flow}
use Rattle.pw_flow.specs.Energy.{cell}
use Rattle.pw_flow.specs.Pairs.{cell_between}
use Rattle.pw_flow.proofs.Kept.{kept-none}
use Rattle.pw_flow.proofs.Points.{last-tells, next-tells}
use Rattle.pw_flow.proofs.Sums.{kept-nothing}
use Rattle.pw_model.specs.declared.records.Key.{Key}
use Rattle.pw_model.specs.declared.records.Entry.{Entry}
use Rattle.pw_model.specs.Same.{direction_of, same_direction}
use Rattle.pw_model.specs.Counting.{contents_at, point}
use Rattle.pw_model.specs.Changes.{in_direction}
use Rattle.pw_model.specs.Energy.{Asked, account, asked_seconds, energy_where, of_class, over_bands, over_periods, owner_at}
use Rattle.pw_model.proofs.Assignments.{one-more_assignment}
use Rattle.pw_model.proofs.Energy.{one-more_reading}
use Rattle.pw_months.specs.Between.{between, cents_between, class_cost, cost_between, lies_in}
use Rattle.pw_months.specs.Bills.{balance_at, bill_of}
use Rattle.pw_months.specs.Reaching.{BillGoesByWhatIsTold, EnergyGoesByWhatIsTold, OneReadingReaches, OtherStartReaches, ReadTheSame, TellTheSame, second_or}
use Rattle.pw_months.proofs.BillSums.{settled-same}
use Rattle.pw_months.proofs.ListedTopUps.{top-ups_told}
use Rattle.pw_months.proofs.Shared.{lies-everywhere, lies-outside, where-alike, where-told}

-- ---- what the seconds of an interval carry
last-on : (p q : ℕ → Option ℕ) (x t : ℕ) → x ≤ t → last p x ≡ last q x → ((s : ℕ) → x < s → s ≤ t → p s ≡ q s) →
    last p t ≡ last q t
unfolding last
last-on p q x zero l e h =
    let P : ℕ → Type 0 = λ v. last p v ≡ last q v in
    let z : x ≡ 0 = omega arith in
    subst P z e
last-on p q x (suc t) l e h =
    elim (cases_eq x (suc t)) [
      | inl i ↦ (let P : ℕ → Type 0 = λ v. last p v ≡ last q v in subst P i e)
      | inr d ↦ (
          let before : last p t ≡ last q t = last-on p q x t (omega arith) e (λ s a b. h s a (omega arith)) in
          rw (h (suc t) (omega arith) (omega arith), before))
    ]

-- the n seconds behind t, which go on behind u
next-on : (p q : ℕ → Option ℕ) (t n u : ℕ) → t ≤ u → u ≤ t + n → ((s : ℕ) → t < s → s ≤ u → p s ≡ q s) →
    next p u (t + n - u) ≡ next q u (t + n - u) → next p t n ≡ next q t n
unfolding next
next-on p q t zero u l g h e = refl
next-on p q t (suc n) u l g h e =
    elim (cases_eq t u) [
      | inl i ↦ (
          let P : ℕ → Type 0 = λ v. next p u v ≡ next q u v in
          let Q : ℕ → Type 0 = λ v. next p v (suc n) ≡ next q v (suc n) in
          let j : t + suc n - u ≡ suc n = omega arith in
          subst Q (sym i) (subst P j e))
      | inr d ↦ (
          let P : ℕ → Type 0 = λ v. next p u v ≡ next q u v in
          let j : t + suc n - u ≡ suc t + n - u = omega arith in
          let behind : next p (suc t) n ≡ next q (suc t) n
          = next-on p q (suc t) n u (omega arith) (omega arith) (λ s a b. h s (omega arith) b) (subst P j e) in
          rw (h (suc t) (omega arith) (omega arith), behind))
    ]

flow-told : (p q : ℕ → Option ℕ) (end from to : ℕ) → to ≤ end → ReadTheSame end p q from to →
    (t : ℕ) → from ≤ t → t < to → flow p end t ≡ flow q end t
unfolding flow
flow-told p q end from to l h t a b =
    let P : ℕ → Type 0 = λ v. next p (to - 1) v ≡ next q (to - 1) v in
    let j : end - (to - 1) ≡ t + (end - t) - (to - 1) = omega arith in
    let before : last p t ≡ last q t = last-on p q from t a h.before (λ s c d. h.within s c (omega arith)) in
    let behind : next p t (end - t) ≡ next q t (end - t)
    = next-on p q t (end - t) (to - 1) (omega arith) (omega arith) (λ s c d. h.within s (omega arith) (omega arith))
    (subst P j h.behind) in
    λ i. flow_between (before i) (behind i) t

-- what is the same where a test passes, is the same of what it lets pass
passed : (l a b : Bool) (n k : ℕ) → (l ≡ true → (a ≡ b) × (n ≡ k)) → cond (l && a) n 0 ≡ cond (l && b) k 0
passed true a b n k h = let e : (a ≡ b) × (n ≡ k) = h refl in λ i. cond (e.0 i) (e.1 i) 0
passed false a b n k h = refl

lies-to : (from to t : ℕ) → lies_in from to t ≡ true → (from ≤ t) × (t < to)
lies-to from to t h =
    let e = and_parts (nat_le from t) (nat_lt t to) h in
    (leb-true from t e.0, ltb-true t to e.1)

pub energy-told : EnergyGoesByWhatIsTold
energy-told office at bt from to e l h asked d =
    where-told office at bt d (between from to asked) (between from to asked)
    (λ m r i c t u.
    passed (lies_in from to t) (asked (owner_at at m t) t) (asked (owner_at bt m t) t)
    (flow (point at m r) office.end t) (flow (point bt m r) office.end t)
    (λ y.
    let w = lies-to from to t y in
    let owner : owner_at at m t ≡ owner_at bt m t = h.owners m t i w.0 w.1 in (
      ap (λ (o : Option AccountId). asked o t) owner,
      flow-told (point at m r) (point bt m r) office.end from to l (h.readings m r i c) t w.0 w.1,
    )))

-- ---- a bill
module _ (office : OfficeRules) (s t : List Entry) (a end : ℕ) (some : 0 < end) (l : end ≤ office.end) (h : TellTheSame office (contents_at s) (contents_at t) 0 end) where
  within : (from to u : ℕ) (b : Bool) → to ≤ end →
      (lies_in from to u && b) ≡ (lies_in 0 end u && (lies_in from to u && b))
  within from to u b e =
      elim (cases_lt u end) [
        | inl x ↦ sym (lies-everywhere end u (lies_in from to u && b) x)
        | inr x ↦ (
            let none : (lies_in from to u && b) ≡ false = lies-outside from to u b (inr (omega arith)) in
            none ∙ sym (lies-outside 0 end u (lies_in from to u && b) (inr x)))
      ]

  asked-told : (asked : Asked) (d : Direction) (from to : ℕ) → to ≤ end →
      energy_where office (contents_at s) d (between from to asked)
      ≡ energy_where office (contents_at t) d (between from to asked)
  asked-told asked d from to e =
      let inner : Asked = between from to asked in
      where-alike office (contents_at s) d inner (between 0 end inner) (λ o u x. within from to u (asked o u) e)
      ∙ energy-told office (contents_at s) (contents_at t) 0 end some l h inner d
      ∙ sym (where-alike office (contents_at t) d inner (between 0 end inner) (λ o u x. within from to u (asked o u) e))

  class-told : (o : Option AccountId) (p b : ℕ) (d : Direction) (from to : ℕ) → to ≤ end →
      class_cost office (contents_at s) o p b d from to ≡ class_cost office (contents_at t) o p b d from to
  class-told o p b d from to e = ap (λ n. office.price p b d * n) (asked-told (of_class office o p b) d from to e)

  cost-told : (o : Option AccountId) (d : Direction) (from to : ℕ) → to ≤ end →
      cost_between office (contents_at s) o d from to ≡ cost_between office (contents_at t) o d from to
  unfolding cost_between
  cost-told o d from to e = λ i. over_periods office (λ p. over_bands office (λ b. class-told o p b d from to e i))

  module _ (cents : (k : Key) (x y : ℕ) → y ≤ end → cents_between a x y (contents_at s k) ≡ cents_between a x y (contents_at t k)) where
    balance-told : (u : ℕ) → u ≤ end → balance_at office s a u ≡ balance_at office t a u
    balance-told u e =
        let o : Option AccountId = Some (account a) in
        settled-same (pos 0) _ _ _ _ _ _ (top-ups_told s t a 0 u (λ k. cents k 0 u e)) (cost-told o Import 0 u e) (cost-told o Export 0 u e)

    pub told-bill : (from to : ℕ) → from ≤ to → to ≤ end → bill_of office s a from to ≡ bill_of office t a from to
    told-bill from to r e =
        let o : Option AccountId = Some (account a) in
        λ i. record {
          begin = balance-told from (omega (arith, r, e)) i;
          topped_up = top-ups_told s t a from to (λ k. cents k from to e) i;
          energy = λ p b d. asked-told (of_class office o p b) d from to e i;
          cost = λ p b d. class-told o p b d from to e i;
          whole_cost = λ d. cost-told o d from to e i;
          end = balance-told to e i;
        }

pub bill-told : BillGoesByWhatIsTold
bill-told office s t a from to end r e some l h cents = told-bill office s t a end some l h cents from to r e

-- ---- one reading more
cell-outside : (k : ℕ → Bool) (a b : ℕ × ℕ) → ((t : ℕ) → a.0 ≤ t → t < b.0 → k t ≡ false) → cell k a b ≡ 0
unfolding cell
cell-outside k a b h = kept-none k (pair_flow a b) a.0 (b.0 - a.0) (λ t x y. h t x (omega arith))

cells-outside : (k : ℕ → Bool) (z x y : ℕ) → ((t : ℕ) → x ≤ t → t < y → k t ≡ false) → (one two : Option (ℕ × ℕ)) →
    x ≤ second_or z one → second_or z two ≤ y → cell_between k one two ≡ 0
cells-outside k z x y h None two l r = refl
cells-outside k z x y h (Some a) None l r = refl
cells-outside k z x y h (Some a) (Some b) l r = cell-outside k a b (λ t c d. h t (omega arith) (omega arith))

before-it : (p : ℕ → Option ℕ) (z : ℕ) (below : Option (ℕ × ℕ)) → last p z ≡ below → second_or z below ≤ z
before-it p z None e = omega arith
before-it p z (Some a) e = let f = last-tells p z (Some a) e in f.early

behind-it : (p : ℕ → Option ℕ) (z n : ℕ) (above : Option (ℕ × ℕ)) → next p z n ≡ above → z ≤ second_or z above
behind-it p z n None e = omega arith
behind-it p z n (Some b) e = let f = next-tells p z n (Some b) e in omega (arith, f.late)

unmoved : (new old a b : ℕ) → new + a ≡ old + b → a ≡ 0 → b ≡ 0 → old ≡ new
unmoved new old a b e x y = omega arith

pub reading-reaches : OneReadingReaches
reading-reaches office old new m r z w below above more around l c from to far asked d =
    let k : ℕ → Bool = asked_seconds old (between from to asked) m in
    let x : ℕ = second_or z below in
    let y : ℕ = second_or z above in
    let early : x ≤ z = before-it (point old m r) z below around.last_is in
    let late : z ≤ y = behind-it (point old m r) z (office.end - z) above around.next_is in
    let none : (t : ℕ) → x ≤ t → t < y → k t ≡ false = λ t u v.
    lies-outside from to t (asked (owner_at old m t) t) (elim far [ inl b ↦ inr (omega arith) | inr b ↦ inl (omega arith) ]) in
    let taken : cell_between k below above ≡ 0 = cells-outside k z x y none below above (omega arith) (omega arith) in
    let first : cell_between k below (Some (z, w)) ≡ 0
    = cells-outside k z x y none below (Some (z, w)) (omega arith) late in
    let second : cell_between k (Some (z, w)) above ≡ 0
    = cells-outside k z x y none (Some (z, w)) above early (omega arith) in
    let given : cell_between k below (Some (z, w)) + cell_between k (Some (z, w)) above ≡ 0
    = omega (arith, first, second) in
    let test : Bool = same_direction (direction_of r) d in
    unmoved (energy_where office new d (between from to asked)) (energy_where office old d (between from to asked))
    (in_direction d r (cell_between k below above))
    (in_direction d r (cell_between k below (Some (z, w)) + cell_between k (Some (z, w)) above))
    (one-more_reading office old new m r z w below above more around l c (between from to asked) d)
    (kept-nothing test (cell_between k below above) taken)
    (kept-nothing test (cell_between k below (Some (z, w)) + cell_between k (Some (z, w)) above) given)

-- ---- another assignment
pub start-reaches : OtherStartReaches
start-reaches office old new m z other from to far asked d =
    let g = one-more_assignment office old new m z other in
    let same_owners : (n t : ℕ) → from ≤ t → t < to → owner_at old n t ≡ owner_at new n t = λ n t a b.
    elim (cases_eq n m) [
      | inr e ↦ g.others n t e
      | inl i ↦ (
          let P : ℕ → Type 0 = λ v. owner_at old v t ≡ owner_at new v t in
          subst P (sym i) (elim far [
            | inl e ↦ g.before t (omega arith)
            | inr e ↦ (let late : e.0 ≤ t = omega (arith, e.4) in g.behind e.0 t e.1 e.2 e.3 late)
          ]))
    ] in
    where-told office old new d (between from to asked) (between from to asked)
    (λ n r i c t u.
    passed (lies_in from to t) (asked (owner_at old n t) t) (asked (owner_at new n t) t)
    (flow (point old n r) office.end t) (flow (point new n r) office.end t)
    (λ y.
    let w = lies-to from to t y in (
      ap (λ (o : Option AccountId). asked o t) (same_owners n t w.0 w.1),
      ap (λ (p : ℕ → Option ℕ). flow p office.end t) (g.points n r),
    )))
