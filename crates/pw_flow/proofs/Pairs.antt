-- The energy of a register is what its neighbouring pairs post.
use Rattle.std.proofs.Common.{◌≡◌, ℕ, suc, ◌+◌, ◌-◌, ◌*◌, ◌<◌, ◌≤◌, Option, Some, None, List, length, All, [], ◌∷◌, Bool, ◌∙◌, ap, arith, zero-add}
use Rattle.std.proofs.lemmas.List.Elements.{All-head, All-tail}
use Rattle.std.proofs.Math.Nat.{suc-mul}
use Rattle.pw_flow.specs.Time.{last, next, sum_over}
use Rattle.pw_flow.specs.Flow.{flow, pair_flow}
use Rattle.pw_flow.specs.Energy.{kept, register_energy, cell}
use Rattle.pw_flow.specs.Pairs.{last_of}
use Rattle.pw_flow.specs.Pairs.{Chain}
use Rattle.pw_flow.specs.Pairs.{ListsPoints}
use Rattle.pw_flow.specs.Pairs.{pairs_sum}
use Rattle.pw_flow.proofs.Sums.{sum-split, sum-same, sum-none, kept-nothing}
use Rattle.pw_flow.proofs.Points.{last-is, last-none, next-none}
use Rattle.pw_flow.specs.Changes.{EnergyIsBounded}
use Rattle.pw_flow.proofs.Level.{cell-at_most}
use Rattle.pw_flow.proofs.Neighbours.{flow-spanned}
use Rattle.pw_flow.proofs.Insert.{kept-same, four-spans}

-- nothing stands behind the last point
pub flow-last : (p : ℕ → Option ℕ) (end a t w : ℕ) → ((s : ℕ) → a < s → p s ≡ None) → a ≤ t → p a ≡ Some w → flow p end t ≡ 0
unfolding flow
flow-last p end a t w h l e =
    let n : next p t (end - t) ≡ None = next-none p t (end - t) (λ s b c. h s (omega arith)) in
    let f : last p t ≡ Some (a, w) = last-is p t a w (record { holds = e; early = l; none = λ s b c. h s b }) in
    rw (f, n)

-- nor before the first
pub flow-first : (p : ℕ → Option ℕ) (end t : ℕ) → ((s : ℕ) → s ≤ t → p s ≡ None) → flow p end t ≡ 0
unfolding flow
flow-first p end t h = rw (last-none p t h)

from-point : (k : ℕ → Bool) (p : ℕ → Option ℕ) (end : ℕ) (a : ℕ × ℕ) (ps : List (ℕ × ℕ)) → p a.0 ≡ Some a.1 → a.0 < end → ListsPoints p end (suc a.0) ps →
    sum_over (kept k (flow p end)) a.0 (end - a.0) ≡ pairs_sum k (a ∷ ps)
unfolding cell
from-point k p end a [] h l ls = sum-none _ a.0 (end - a.0) (λ t x y. kept-nothing (k t) _ (flow-last p end a.0 t a.1 (λ s z. ls s (omega arith)) x h))
from-point k p end a (b ∷ ps) h l ls =
    let lt : a.0 < b.0 = omega (arith, ls.0) in
    let be : b.0 < end = ls.1 in
    let e1 : (b.0 - a.0) + (end - b.0) ≡ end - a.0 = omega arith in
    let e2 : a.0 + (b.0 - a.0) ≡ b.0 = omega arith in
    let s : sum_over (kept k (flow p end)) a.0 (end - a.0) ≡ sum_over (kept k (flow p end)) a.0 (b.0 - a.0) + sum_over (kept k (flow p end)) b.0 (end - b.0) = rw (e1, e2) at (sum-split (kept k (flow p end)) a.0 (b.0 - a.0) (end - b.0)) in
    let c : sum_over (kept k (flow p end)) a.0 (b.0 - a.0) ≡ sum_over (kept k (pair_flow a b)) a.0 (b.0 - a.0) = kept-same k (flow p end) (pair_flow a b) a.0 (b.0 - a.0) (λ t x y. flow-spanned p end t a.0 a.1 b.0 b.1 (record { neighbours = record { earlier = lt; first = h; second = ls.2; between = λ s i j. ls.3 s (omega arith) j }; seen = omega arith; begun = x; under_way = omega arith })) in
    let r : sum_over (kept k (flow p end)) b.0 (end - b.0) ≡ pairs_sum k (b ∷ ps) = from-point k p end b ps ls.2 ls.1 ls.4 in
    s ∙ ap (λ n. n + sum_over (kept k (flow p end)) b.0 (end - b.0)) c ∙ ap (λ n. sum_over (kept k (pair_flow a b)) a.0 (b.0 - a.0) + n) r

pub energy-pairs : (k : ℕ → Bool) (p : ℕ → Option ℕ) (end : ℕ) (ps : List (ℕ × ℕ)) → ListsPoints p end 0 ps → register_energy k p end ≡ pairs_sum k ps
unfolding register_energy
energy-pairs k p end [] ls = sum-none _ 0 end (λ t x y. kept-nothing (k t) _ (flow-first p end t (λ s z. ls s (omega arith))))
energy-pairs k p end (a ∷ ps) ls =
    let e1 : a.0 + (end - a.0) ≡ end = omega (arith, ls.1) in
    let s : sum_over (kept k (flow p end)) 0 end ≡ sum_over (kept k (flow p end)) 0 a.0 + sum_over (kept k (flow p end)) a.0 (end - a.0) = rw (e1, zero-add) at (sum-split (kept k (flow p end)) 0 a.0 (end - a.0)) in
    let z : sum_over (kept k (flow p end)) 0 a.0 ≡ 0 = sum-none _ 0 a.0 (λ t x y. kept-nothing (k t) _ (flow-first p end t (λ s w. ls.3 s (omega arith) (omega arith)))) in
    let r : sum_over (kept k (flow p end)) a.0 (end - a.0) ≡ pairs_sum k (a ∷ ps) = from-point k p end a ps ls.2 ls.1 ls.4 in
    omega arith

-- ---- another owner within a window: only the pairs in the window are posted again
pub chain-rises : (p : ℕ → Option ℕ) (a : ℕ × ℕ) (ps : List (ℕ × ℕ)) → Chain p a ps → a.0 ≤ (last_of a ps).0
chain-rises p a [] c = omega arith
chain-rises p a (b ∷ ps) c = let h : b.0 ≤ (last_of b ps).0 = chain-rises p b ps c.1 in omega (arith, c.0.earlier)

pub chain-sum : (k : ℕ → Bool) (p : ℕ → Option ℕ) (end : ℕ) (a : ℕ × ℕ) (ps : List (ℕ × ℕ)) → Chain p a ps → (last_of a ps).0 < end →
    sum_over (kept k (flow p end)) a.0 ((last_of a ps).0 - a.0) ≡ pairs_sum k (a ∷ ps)
unfolding cell sum_over
chain-sum k p end a [] c l = let e : a.0 - a.0 ≡ 0 = omega arith in rw e
chain-sum k p end a (b ∷ ps) c l =
    let r : b.0 ≤ (last_of b ps).0 = chain-rises p b ps c.1 in
    let lt : a.0 < b.0 = c.0.earlier in
    let e1 : (b.0 - a.0) + ((last_of b ps).0 - b.0) ≡ (last_of b ps).0 - a.0 = omega arith in
    let e2 : a.0 + (b.0 - a.0) ≡ b.0 = omega arith in
    let s : sum_over (kept k (flow p end)) a.0 ((last_of b ps).0 - a.0) ≡ sum_over (kept k (flow p end)) a.0 (b.0 - a.0) + sum_over (kept k (flow p end)) b.0 ((last_of b ps).0 - b.0) = rw (e1, e2) at (sum-split (kept k (flow p end)) a.0 (b.0 - a.0) ((last_of b ps).0 - b.0)) in
    let f : sum_over (kept k (flow p end)) a.0 (b.0 - a.0) ≡ sum_over (kept k (pair_flow a b)) a.0 (b.0 - a.0) = kept-same k (flow p end) (pair_flow a b) a.0 (b.0 - a.0) (λ t x y. flow-spanned p end t a.0 a.1 b.0 b.1 (record { neighbours = c.0; seen = omega arith; begun = x; under_way = omega arith })) in
    let h : sum_over (kept k (flow p end)) b.0 ((last_of b ps).0 - b.0) ≡ pairs_sum k (b ∷ ps) = chain-sum k p end b ps c.1 l in
    s ∙ ap (λ n. n + sum_over (kept k (flow p end)) b.0 ((last_of b ps).0 - b.0)) f ∙ ap (λ n. sum_over (kept k (pair_flow a b)) a.0 (b.0 - a.0) + n) h

pub energy-window : (k l : ℕ → Bool) (p : ℕ → Option ℕ) (end : ℕ) (a : ℕ × ℕ) (ps : List (ℕ × ℕ)) → Chain p a ps → (last_of a ps).0 < end →
    ((t : ℕ) → t < a.0 → kept k (flow p end) t ≡ kept l (flow p end) t) → ((t : ℕ) → (last_of a ps).0 ≤ t → kept k (flow p end) t ≡ kept l (flow p end) t) →
    register_energy k p end + pairs_sum l (a ∷ ps) ≡ register_energy l p end + pairs_sum k (a ∷ ps)
unfolding register_energy
energy-window k l p end a ps c h before after =
    let y = (last_of a ps).0 in
    let r : a.0 ≤ y = chain-rises p a ps c in
    let fk = four-spans (kept k (flow p end)) a.0 y y end r (omega arith) (omega arith) in
    let fl = four-spans (kept l (flow p end)) a.0 y y end r (omega arith) (omega arith) in
    let s1 : sum_over (kept k (flow p end)) 0 a.0 ≡ sum_over (kept l (flow p end)) 0 a.0 = sum-same _ _ 0 a.0 (λ t x z. before t (omega arith)) in
    let s2 : sum_over (kept k (flow p end)) y (end - y) ≡ sum_over (kept l (flow p end)) y (end - y) = sum-same _ _ y (end - y) (λ t x z. after t x) in
    let e : y - y ≡ 0 = omega arith in
    let zk : sum_over (kept k (flow p end)) y (y - y) ≡ 0 = sum-none _ y (y - y) (λ t x z. absurd (omega arith)) in
    let zl : sum_over (kept l (flow p end)) y (y - y) ≡ 0 = sum-none _ y (y - y) (λ t x z. absurd (omega arith)) in
    let ck : sum_over (kept k (flow p end)) a.0 (y - a.0) ≡ pairs_sum k (a ∷ ps) = chain-sum k p end a ps c h in
    let cl : sum_over (kept l (flow p end)) a.0 (y - a.0) ≡ pairs_sum l (a ∷ ps) = chain-sum l p end a ps c h in
    omega (arith, fk, fl)

-- ---- a bound
pairs_sum-le : (k : ℕ → Bool) (most : ℕ) (a : ℕ × ℕ) (ps : List (ℕ × ℕ)) → All (λ b. b.1 ≤ most) (a ∷ ps) → pairs_sum k (a ∷ ps) ≤ length ps * most
pairs_sum-le k most a [] h = omega arith
pairs_sum-le k most a (b ∷ ps) h =
    let t : All (λ c. c.1 ≤ most) (b ∷ ps) = All-tail (λ c. c.1 ≤ most) a (b ∷ ps) h in
    let m : b.1 ≤ most = All-head (λ c. c.1 ≤ most) b ps t in
    let c : cell k (a.0, a.1) (b.0, b.1) ≤ b.1 - a.1 = cell-at_most k a.0 a.1 b.0 b.1 in
    let r : pairs_sum k (b ∷ ps) ≤ length ps * most = pairs_sum-le k most b ps t in
    let s : suc (length ps) * most ≡ length ps * most + most = suc-mul (length ps) most in
    omega (arith, c)

-- the energy is at most the largest value for each point
pub energy-bounded : EnergyIsBounded
energy-bounded k p end [] most l h = let e : register_energy k p end ≡ 0 = energy-pairs k p end [] l in omega arith
energy-bounded k p end (a ∷ ps) most l h =
    let e : register_energy k p end ≡ pairs_sum k (a ∷ ps) = energy-pairs k p end (a ∷ ps) l in
    let b : pairs_sum k (a ∷ ps) ≤ length ps * most = pairs_sum-le k most a ps h in
    let s : suc (length ps) * most ≡ length ps * most + most = suc-mul (length ps) most in
    omega arith
