-- Sums by class add up to the whole.
use Rattle.std.proofs.Common.{◌≡◌, ◌==◌, ℕ, zero, suc, ◌+◌, ◌-◌, ◌<◌, ◌≤◌, Option, cond, refl, ◌∙◌, ap, arith, inl, inr, zero-add}
use Rattle.std.proofs.lemmas.Bool.{cases_eq, cases_lt, eq-eqb, ne_eqb, lt-ltb, le-ltb}
use Rattle.std.specs.Prelude.{nat_lt}
use Rattle.pw_flow.specs.Time.{sum_over}
use Rattle.pw_flow.specs.Flow.{pair_flow, flow, rises}
use Rattle.pw_flow.specs.Energy.{kept, cell, register_energy}
use Rattle.pw_flow.proofs.Sums.{sum-none}
use Rattle.pw_flow.specs.Laws.{ClassesAddUp}
use Rattle.pw_flow.proofs.Level.{pair-adds}
use Rattle.pw_flow.proofs.Whole.{flow-whole}

pub sum-add : (f g : ℕ → ℕ) (x n : ℕ) → sum_over (λ i. f i + g i) x n ≡ sum_over f x n + sum_over g x n
unfolding sum_over
sum-add f g x zero = refl
sum-add f g x (suc n) =
    let e : sum_over (λ i. f i + g i) x n ≡ sum_over f x n + sum_over g x n = sum-add f g x n in
    omega arith

-- one class alone has a second's flow
pub sum-pick : (c v n : ℕ) → sum_over (λ i. cond (c == i) v 0) 0 n ≡ cond (nat_lt c n) v 0
unfolding sum_over
sum-pick c v zero = rw (le-ltb c 0 (omega arith))
sum-pick c v (suc n) =
    let e : sum_over (λ i. cond (c == i) v 0) 0 n ≡ cond (nat_lt c n) v 0 = sum-pick c v n in
    let z : 0 + n ≡ n = zero-add n in
    rw (e, z) (elim (cases_eq c n) [
      | inl i ↦ (let a : c < suc n = omega arith in let b : n ≤ c = omega arith in rw (eq-eqb c n i, lt-ltb c (suc n) a, le-ltb c n b) (zero-add v))
      | inr d ↦ elim (cases_lt c n) [
        | inl l ↦ (let a : c < suc n = omega arith in rw (ne_eqb c n d, lt-ltb c (suc n) a, lt-ltb c n l) (omega arith))
        | inr g ↦ (let a : suc n ≤ c = omega arith in rw (ne_eqb c n d, le-ltb c (suc n) a, le-ltb c n g))
      ]
    ])

-- the sums of all classes are the whole sum
pub by-class : (class : ℕ → ℕ) (f : ℕ → ℕ) (count x n : ℕ) → ((t : ℕ) → x ≤ t → t < x + n → class t < count) →
    sum_over (λ i. sum_over (kept (λ t. class t == i) f) x n) 0 count ≡ sum_over f x n
unfolding sum_over
by-class class f count x zero h = sum-none _ 0 count (λ t a b. refl)
by-class class f count x (suc n) h =
    let e : sum_over (λ i. sum_over (kept (λ t. class t == i) f) x n) 0 count ≡ sum_over f x n = by-class class f count x n (λ t a b. h t a (omega arith)) in
    let l : class (x + n) < count = h (x + n) (omega arith) (omega arith) in
    let p : sum_over (λ i. cond (class (x + n) == i) (f (x + n)) 0) 0 count ≡ f (x + n) = sum-pick (class (x + n)) (f (x + n)) count ∙ rw (lt-ltb _ _ l) in
    sum-add (λ i. sum_over (kept (λ t. class t == i) f) x n) (λ i. cond (class (x + n) == i) (f (x + n)) 0) 0 count ∙ ap (λ a. a + sum_over (λ i. cond (class (x + n) == i) (f (x + n)) 0) 0 count) e ∙ ap (λ a. sum_over f x n + a) p

-- what a pair gives to all classes is its rise
pub cells-add : (class : ℕ → ℕ) (count x w y v : ℕ) → x < y → w ≤ v → ((t : ℕ) → x ≤ t → t < y → class t < count) →
    sum_over (λ i. cell (λ t. class t == i) (x, w) (y, v)) 0 count ≡ v - w
unfolding cell
cells-add class count x w y v l r h = by-class class (pair_flow (x, w) (y, v)) count x (y - x) (λ t a b. h t a (omega arith)) ∙ pair-adds x w y v l r

-- the energies of all classes are all the rises
pub energies-add : (class : ℕ → ℕ) (count : ℕ) (p : ℕ → Option ℕ) (end : ℕ) → ((t : ℕ) → t < end → class t < count) →
    sum_over (λ i. register_energy (λ t. class t == i) p end) 0 count ≡ rises p end
unfolding register_energy
energies-add class count p end h = by-class class (flow p end) count 0 end (λ t a b. h t (omega arith)) ∙ flow-whole p end

-- the law
pub classes-add : ClassesAddUp
classes-add class count = record {
  sums = λ f x n h. by-class class f count x n h;
  cells = λ x w y v l r h. cells-add class count x w y v l r h;
  energies = λ p end h. energies-add class count p end h;
}
