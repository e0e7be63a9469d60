-- Sums change places: what is shared out over numbers, and what it costs. (Of plain functions alone.)
use Rattle.std.proofs.Common.{◌≡◌, ◌==◌, ◌&&◌, ℕ, zero, suc, ◌+◌, ◌*◌, ◌<◌, ◌≤◌, Bool, true, false, cond, refl, ap, sym, ◌∙◌, mul-add, mul-zero, arith, inl, inr}
use Rattle.std.specs.Prelude.{nat_lt}
use Rattle.std.proofs.lemmas.Bool.{cases_eq, cases_lt, eq-eqb, ne_eqb, lt-ltb, le-ltb}
use Rattle.pw_flow.specs.Time.{sum_over}
use Rattle.pw_flow.proofs.Sums.{sum-same, sum-none}
use Rattle.pw_flow.proofs.Shares.{sum-add, sum-pick}

-- a sum of sums, the other way round
pub sum-swap : (f : ℕ → ℕ → ℕ) (m x n : ℕ) → sum_over (λ p. sum_over (f p) x n) 0 m ≡ sum_over (λ t. sum_over (λ p. f p t) 0 m) x n
unfolding sum_over
sum-swap f m x zero = sum-none _ 0 m (λ t a b. refl)
sum-swap f m x (suc n) =
    sum-add (λ p. sum_over (f p) x n) (λ p. f p (x + n)) 0 m ∙ ap (λ s. s + sum_over (λ p. f p (x + n)) 0 m) (sum-swap f m x n)

pub sum-times : (k : ℕ) (f : ℕ → ℕ) (x n : ℕ) → sum_over (λ t. k * f t) x n ≡ k * sum_over f x n
unfolding sum_over
sum-times k f x zero = sym (mul-zero k)
sum-times k f x (suc n) = ap (λ s. s + k * f (x + n)) (sum-times k f x n) ∙ sym (mul-add k (sum_over f x n) (f (x + n)))

pub sum-cond : (c : Bool) (f : ℕ → ℕ) (n : ℕ) → sum_over (λ p. cond c (f p) 0) 0 n ≡ cond c (sum_over f 0 n) 0
sum-cond true f n = refl
sum-cond false f n = sum-none (λ p. 0) 0 n (λ t a b. refl)

-- what stands at one number below n alone
pub sum-one : (c v n : ℕ) → c < n → sum_over (λ p. cond (c == p) v 0) 0 n ≡ v
sum-one c v n l =
    let below : cond (nat_lt c n) v 0 ≡ v = rw (lt-ltb c n l) in
    sum-pick c v n ∙ below

-- ---- prices
at-place : (price : ℕ → ℕ) (w v q : ℕ) → price q * cond (w == q) v 0 ≡ cond (w == q) (price w * v) 0
at-place price w v q =
    elim (cases_eq w q) [
      | inl i ↦ rw (eq-eqb w q i) (ap (λ k. price k * v) (sym i))
      | inr d ↦ rw (ne_eqb w q d) (mul-zero (price q))
    ]

price-picked : (price : ℕ → ℕ) (w v n : ℕ) → (n ≤ w → v ≡ 0) → sum_over (λ q. price q * cond (w == q) v 0) 0 n ≡ price w * v
price-picked price w v n h =
    let picked : cond (nat_lt w n) (price w * v) 0 ≡ price w * v = elim (cases_lt w n) [
      | inl l ↦ rw (lt-ltb w n l)
      | inr g ↦ rw (le-ltb w n g) (sym (mul-zero (price w)) ∙ ap (λ k. price w * k) (sym (h g)))
    ] in
    sum-same (λ q. price q * cond (w == q) v 0) (λ q. cond (w == q) (price w * v) 0) 0 n (λ q a b. at-place price w v q)
    ∙ sum-pick w (price w * v) n ∙ picked

-- amounts that are gathered by a number of theirs, each gathering at the price of that number: each amount at the price of
-- its number
pub prices-gathered : (price whole e : ℕ → ℕ) (m n : ℕ) → ((p : ℕ) → p < m → n ≤ whole p → e p ≡ 0) →
    sum_over (λ q. price q * sum_over (λ p. cond (whole p == q) (e p) 0) 0 m) 0 n ≡ sum_over (λ p. price (whole p) * e p) 0 m
prices-gathered price whole e m n h =
    let term : ℕ → ℕ → ℕ = λ q p. price q * cond (whole p == q) (e p) 0 in
    let inside : sum_over (λ q. price q * sum_over (λ p. cond (whole p == q) (e p) 0) 0 m) 0 n ≡ sum_over (λ q. sum_over (term q) 0 m) 0 n
    = sum-same (λ q. price q * sum_over (λ p. cond (whole p == q) (e p) 0) 0 m) (λ q. sum_over (term q) 0 m) 0 n
    (λ q a b. sym (sum-times (price q) (λ p. cond (whole p == q) (e p) 0) 0 m)) in
    let outside : sum_over (λ p. sum_over (λ q. term q p) 0 n) 0 m ≡ sum_over (λ p. price (whole p) * e p) 0 m
    = sum-same (λ p. sum_over (λ q. term q p) 0 n) (λ p. price (whole p) * e p) 0 m
    (λ p a b. price-picked price (whole p) (e p) n (λ g. h p (omega (arith, b)) g)) in
    inside ∙ sum-swap term n 0 m ∙ outside

-- ---- tests
-- of a class: its test first
pub class-first : (c p k : Bool) (v : ℕ) → cond (c && (p && k)) v 0 ≡ cond p (cond (c && k) v 0) 0
class-first true true k v = refl
class-first true false k v = refl
class-first false true k v = refl
class-first false false k v = refl

turned : (w c k : Bool) (v : ℕ) → cond (w && (c && k)) v 0 ≡ cond (c && (w && k)) v 0
turned true true k v = refl
turned true false k v = refl
turned false true k v = refl
turned false false k v = refl

never : (w c : Bool) (v : ℕ) → cond (w && (c && false)) v 0 ≡ 0
never true true v = refl
never true false v = refl
never false true v = refl
never false false v = refl

-- of a class x, where whole tells in which wider class a class lies
pub wider-first : (whole : ℕ → ℕ) (q x p : ℕ) (c k : Bool) (v : ℕ) →
    cond ((whole p == q) && (c && ((x == p) && k))) v 0 ≡ cond (x == p) (cond (c && ((whole x == q) && k)) v 0) 0
wider-first whole q x p c k v =
    elim (cases_eq x p) [
      | inl i ↦ rw (eq-eqb x p i) (ap (λ y. cond ((whole y == q) && (c && k)) v 0) (sym i) ∙ turned (whole x == q) c k v)
      | inr d ↦ rw (ne_eqb x p d) (never (whole p == q) c v)
    ]
