-- Sums whose terms stand at other places. (Of plain functions alone.)
use Rattle.std.proofs.Common.{◌≡◌, ◌==◌, ℕ, zero, suc, ◌+◌, ◌<◌, ◌≤◌, ◌-◌, ◌⊎◌, true, false, cond, refl, ap, sym, ◌∙◌, add-zero, arith, inl, inr}
use Rattle.std.proofs.lemmas.Bool.{cases_eq, cases_lt, eq-eqb, ne_eqb}
use Rattle.pw_flow.specs.Time.{sum_over}
use Rattle.pw_flow.proofs.Sums.{sum-same, sum-none, sum-split}
use Rattle.pw_model.proofs.Exchange.{sum-swap, sum-one}

-- a sum over more places of which those behind the first m carry nothing
pub sum-longer : (f : ℕ → ℕ) (m n : ℕ) → m ≤ n → ((i : ℕ) → m ≤ i → f i ≡ 0) → sum_over f 0 n ≡ sum_over f 0 m
sum-longer f m n l h =
    let e : m + (n - m) ≡ n = omega (arith, l) in
    let s : sum_over f 0 (m + (n - m)) ≡ sum_over f 0 m + sum_over f (0 + m) (n - m) = sum-split f 0 m (n - m) in
    let z : sum_over f (0 + m) (n - m) ≡ 0 = sum-none f (0 + m) (n - m) (λ i a b. h i (omega (arith, a))) in
    ap (λ k. sum_over f 0 k) (sym e) ∙ s ∙ ap (λ k. sum_over f 0 m + k) z ∙ add-zero (sum_over f 0 m)

-- whether a function has a value at one of the first m places
abbrev pub IsFound : (ℕ → ℕ) → ℕ → ℕ → Type 0
IsFound f q m = (p : ℕ) × (p < m) × (f p ≡ q)

pub found-or_not : (f : ℕ → ℕ) (q m : ℕ) → IsFound f q m ⊎ ((p : ℕ) → p < m → f p ≡ q → ⊥)
found-or_not f q zero = inr (λ p l e. absurd (omega (arith, l)))
found-or_not f q (suc m) = elim (cases_eq (f m) q) [
  | inl e ↦ inl (m, omega arith, e)
  | inr d ↦ elim (found-or_not f q m) [
    | inl r ↦ inl (r.0, (let l = r.1 in omega (arith, l)), r.2)
    | inr n ↦ inr (λ p l e. elim (cases_eq p m) [ inl i ↦ d (ap f (sym i) ∙ e) | inr k ↦ n p (omega (arith, l, k)) e ])
  ]
]

-- what stands at the one place where the function has the value
at-found : (f e : ℕ → ℕ) (q m x : ℕ) → x < m → f x ≡ q → ((p : ℕ) → p < m → f p ≡ q → p ≡ x) → sum_over (λ p. cond (f p == q) (e p) 0) 0 m ≡ e x
at-found f e q m x l h one =
    sum-same (λ p. cond (f p == q) (e p) 0) (λ p. cond (x == p) (e x) 0) 0 m
    (λ p a b. elim (cases_eq x p) [
      | inl i ↦ (
          let k : (f p == q) ≡ true = eq-eqb (f p) q (ap f (sym i) ∙ h) in
          let j : (x == p) ≡ true = eq-eqb x p i in
          rw (k, j) (ap e (sym i)))
      | inr d ↦ (
          let k : (f p == q) ≡ false = ne_eqb (f p) q (λ c. d (sym (one p (omega (arith, b)) c))) in
          let j : (x == p) ≡ false = ne_eqb x p d in
          rw (k, j) refl)
    ])
    ∙ sum-one x (e x) m l

-- m terms that stand at other places among n, no two at one place, and nothing else: the sums are the same. What has no place
-- among the n carries nothing
pub sum-moved : (f e g : ℕ → ℕ) (m n : ℕ) → ((p q : ℕ) → p < m → q < m → f p < n → f p ≡ f q → p ≡ q) → ((p : ℕ) → p < m → f p < n → g (f p) ≡ e p) →
    ((p : ℕ) → p < m → n ≤ f p → e p ≡ 0) → ((q : ℕ) → q < n → ((p : ℕ) → p < m → f p ≡ q → ⊥) → g q ≡ 0) → sum_over g 0 n ≡ sum_over e 0 m
sum-moved f e g m n one same gone new =
    let part : ℕ → ℕ → ℕ = λ p q. cond (f p == q) (e p) 0 in
    let inside : sum_over g 0 n ≡ sum_over (λ q. sum_over (λ p. part p q) 0 m) 0 n
    = sum-same g (λ q. sum_over (λ p. part p q) 0 m) 0 n (λ q a b. elim (found-or_not f q m) [
      | inl r ↦ (
          let x : ℕ = r.0 in
          let l : q < n = omega (arith, b) in
          let h : f x ≡ q = r.2 in
          let k : f x < n = omega (arith, h, l) in
          ap g (sym h) ∙ same x r.1 k ∙ sym (at-found f e q m x r.1 h (λ p c i. sym (one x p r.1 c k (h ∙ sym i)))))
      | inr none ↦ new q (omega (arith, b)) none ∙ sym (sum-none (λ p. part p q) 0 m (λ p c d.
          let k : (f p == q) ≡ false = ne_eqb (f p) q (none p (omega (arith, d))) in
          rw k refl))
    ]) in
    let outside : sum_over (λ p. sum_over (part p) 0 n) 0 m ≡ sum_over e 0 m
    = sum-same (λ p. sum_over (part p) 0 n) e 0 m (λ p a b. elim (cases_lt (f p) n) [
      | inl l ↦ sum-one (f p) (e p) n l
      | inr l ↦ (
          let z : e p ≡ 0 = gone p (omega (arith, b)) l in
          sum-none (part p) 0 n (λ q c d. elim (cases_eq (f p) q) [
            | inl i ↦ (let k : (f p == q) ≡ true = eq-eqb (f p) q i in rw k z)
            | inr i ↦ (let k : (f p == q) ≡ false = ne_eqb (f p) q i in rw k refl)
          ]) ∙ sym z)
    ]) in
    inside ∙ sym (sum-swap part m 0 n) ∙ outside
