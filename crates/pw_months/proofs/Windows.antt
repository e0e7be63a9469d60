-- What has to be asked for an interval.
use Rattle.std.proofs.Common.{◌≡◌, ℕ, ◌-◌, ◌<◌, ◌≤◌, Bool, true, false, cond, ◌&&◌, ◌==◌, Option, Some, None, List, [], ◌∷◌, refl, sym, ap, ◌∙◌, arith, inl, inr}
use Rattle.std.proofs.lemmas.Bool.{and_right}
use Rattle.pw_tariff.specs.declared.ids.AccountId.{AccountId}
use Rattle.pw_tariff.specs.Office.{period_at, band_at}
use Rattle.pw_tariff.specs.Owners.{owner_by_starts, same_owner}
use Rattle.pw_tariff.specs.Shares.{class_seconds}
use Rattle.pw_flow.specs.Time.{sum_over}
use Rattle.pw_flow.specs.Flow.{flow, pair_flow}
use Rattle.pw_flow.specs.Energy.{cell, kept, register_energy}
use Rattle.pw_flow.specs.Pairs.{last_of, pairs_sum}
use Rattle.pw_flow.proofs.Kept.{cell-alike, kept-none}
use Rattle.pw_flow.proofs.Neighbours.{flow-rises}
use Rattle.pw_flow.proofs.Pairs.{energy-window}
use Rattle.pw_flow.proofs.Sums.{kept-nothing}
use Rattle.pw_model.specs.Energy.{account}
use Rattle.pw_months.specs.Between.{lies_in}
use Rattle.pw_months.specs.Window.{CutOwnersCutShares, NamedDaysShare, PairsOfIntervalAreEnough, Spans, kept_in}
use Rattle.pw_months.proofs.Shared.{lies-outside}

abbrev never : ℕ → Bool
never t = false

cells-never : (ps : List (ℕ × ℕ)) → pairs_sum never ps ≡ 0
unfolding cell
cells-never [] = refl
cells-never (a ∷ []) = refl
cells-never (a ∷ b ∷ ps) =
    let here : sum_over (kept never (pair_flow a b)) a.0 (b.0 - a.0) ≡ 0
    = kept-none never (pair_flow a b) a.0 (b.0 - a.0) (λ t x y. refl) in
    let rest = cells-never (b ∷ ps) in
    omega arith

energy-never : (points : ℕ → Option ℕ) (end : ℕ) → register_energy never points end ≡ 0
unfolding register_energy
energy-never points end = kept-none never (flow points end) 0 end (λ t x y. refl)

outside : (keeps : ℕ → Bool) (f : ℕ → ℕ) (t : ℕ) → keeps t ≡ false → kept keeps f t ≡ kept never f t
outside keeps f t h = ap (λ (b : Bool). cond b (f t) 0) h

still : (keeps : ℕ → Bool) (f : ℕ → ℕ) (t : ℕ) → f t ≡ 0 → kept keeps f t ≡ kept never f t
still keeps f t h = kept-nothing (keeps t) (f t) h

some-none : {A : Type 0} (a : A) → Some a ≡ None → ⊥
some-none a e = cc

before : (keeps : ℕ → Bool) (points : ℕ → Option ℕ) (end x y : ℕ) (a : ℕ × ℕ) (ps : List (ℕ × ℕ)) →
    Spans points x y a ps →
    (t : ℕ) → t < a.0 → kept (kept_in x y keeps) (flow points end) t ≡ kept never (flow points end) t
before keeps points end x y a ps h t l =
    elim h.begins [
      | inl b ↦ outside (kept_in x y keeps) (flow points end) t (lies-outside x y t (keeps t) (inl (omega arith)))
      | inr n ↦ still (kept_in x y keeps) (flow points end) t ((flow-rises points end t).unspanned (λ p w q v s.
          let u : p < a.0 = omega (arith, s.begun) in
          some-none w (sym s.neighbours.first ∙ n p u)))
    ]

behind : (keeps : ℕ → Bool) (points : ℕ → Option ℕ) (end x y : ℕ) (a : ℕ × ℕ) (ps : List (ℕ × ℕ)) →
    Spans points x y a ps →
    (t : ℕ) → (last_of a ps).0 ≤ t → kept (kept_in x y keeps) (flow points end) t ≡ kept never (flow points end) t
behind keeps points end x y a ps h t l =
    elim h.ends [
      | inl b ↦ outside (kept_in x y keeps) (flow points end) t (lies-outside x y t (keeps t) (inr (omega arith)))
      | inr n ↦ still (kept_in x y keeps) (flow points end) t ((flow-rises points end t).unspanned (λ p w q v s.
          let u : (last_of a ps).0 < q = omega (arith, s.under_way) in
          some-none v (sym s.neighbours.second ∙ n q u)))
    ]

pub pairs-are_enough : PairsOfIntervalAreEnough
pairs-are_enough keeps points end x y a ps h l =
    let w = energy-window (kept_in x y keeps) never points end a ps h.chain l (before keeps points end x y a ps h)
    (behind keeps points end x y a ps h) in
    let c = cells-never (a ∷ ps) in
    let e = energy-never points end in
    omega arith

cut-second : (l c : Bool) (o : Option AccountId) (a : AccountId) →
    (same_owner (cond l o None) (Some a) && c) ≡ (l && (same_owner o (Some a) && c))
cut-second true c o a = refl
cut-second false c o a = refl

pub cut-owners : CutOwnersCutShares
cut-owners file starts within x y h a period band p w q v =
    cell-alike (class_seconds file within (Some a) period band) (kept_in x y (class_seconds file starts (Some a) period band)) p w q v
    (λ t l m. ap (λ (o : Option AccountId). same_owner o (Some a) && ((period_at file t == period) && (band_at file t == band))) (h t)
    ∙ cut-second (lies_in x y t) ((period_at file t == period) && (band_at file t == band)) (owner_by_starts starts t) a)

named-second : (l s c : Bool) (n i : ℕ) →
    (same_owner (cond (l && s) (Some (account n)) None) (Some (account i)) && c) ≡ (l && ((n == i) && (s && c)))
named-second true true c n i = refl
named-second true false c n i = sym (and_right (n == i) false refl)
named-second false s c n i = refl

pub named-days : NamedDaysShare
named-days file starts named day x y a h i period band p w q v =
    cell-alike (class_seconds file named (Some (account i)) period band)
    (kept_in x y (λ t. (day t == i) && class_seconds file starts (Some a) period band t)) p w q v
    (λ t l m.
    let tariff : Bool = (period_at file t == period) && (band_at file t == band) in
    ap (λ (o : Option AccountId). same_owner o (Some (account i)) && tariff) (h t)
    ∙ named-second (lies_in x y t) (same_owner (owner_by_starts starts t) (Some a)) tariff (day t) i)
