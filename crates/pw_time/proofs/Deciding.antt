-- What can be decided: orders, numbers and texts.
use Rattle.std.proofs.Common.{◌≡◌, ℕ, ◌<◌, ◌≤◌, ◌⊎◌, inl, inr, List, [], ◌∷◌, refl, arith, pos, ◌≤ℤ◌}
use Rattle.std.proofs.lemmas.Bool.{cases_lt}
use Rattle.std.proofs.lemmas.Int.{ints}

pub both : {P Q : Type 0} → P ⊎ (P → ⊥) → Q ⊎ (Q → ⊥) → (P × Q) ⊎ (P × Q → ⊥)
both (inl p) (inl q) = inl (p, q)
both (inl p) (inr n) = inr (λ x. n x.1)
both (inr n) q = inr (λ x. n x.0)

pub three : {P Q R : Type 0} → P ⊎ (P → ⊥) → Q ⊎ (Q → ⊥) → R ⊎ (R → ⊥) → (P × Q × R) ⊎ (P × Q × R → ⊥)
three (inl p) (inl q) (inl r) = inl (p, q, r)
three (inl p) (inl q) (inr n) = inr (λ x. n x.2)
three (inl p) (inr n) r = inr (λ x. n x.1)
three (inr n) q r = inr (λ x. n x.0)

pub known-by : {P Q : Type 0} → (P → Q) → (Q → P) → P ⊎ (P → ⊥) → Q ⊎ (Q → ⊥)
known-by f g (inl p) = inl (f p)
known-by f g (inr n) = inr (λ q. n (g q))

pub below-known : (a b : ℕ) → (a < b) ⊎ (a < b → ⊥)
below-known a b = elim (cases_lt a b) [ inl l ↦ inl l | inr g ↦ inr (λ l. omega (arith, l, g)) ]

pub most-known : (a b : ℕ) → (a ≤ b) ⊎ (a ≤ b → ⊥)
most-known a b = elim (cases_lt b a) [ inl l ↦ inr (λ g. omega (arith, l, g)) | inr g ↦ inl g ]

-- of whole numbers that aren't below 0
pub whole-known : (a b : ℕ) → (pos a ≤ℤ pos b) ⊎ (pos a ≤ℤ pos b → ⊥)
whole-known a b = known-by (λ (l : a ≤ b). omega (arith, ints, l)) (λ (l : pos a ≤ℤ pos b). omega (arith, ints, l)) (most-known a b)

pub number-known : (a b : ℕ) → (a ≡ b) ⊎ (a ≡ b → ⊥)
number-known a b = known-by (λ (l : (a ≤ b) × (b ≤ a)). omega (arith, l.0, l.1)) (λ (e : a ≡ b). (omega (arith, e), omega (arith, e))) (both (most-known a b) (most-known b a))

-- ---- lists
some-or-none : {X : Type 0} (x : X) (xs : List X) → [] ≡ x ∷ xs → ⊥
some-or-none x xs e = cc

none-or-some : {X : Type 0} (x : X) (xs : List X) → x ∷ xs ≡ [] → ⊥
none-or-some x xs e = cc

same-first : {X : Type 0} (x y : X) (xs ys : List X) → x ∷ xs ≡ y ∷ ys → x ≡ y
same-first x y xs ys e = cc

same-rest : {X : Type 0} (x y : X) (xs ys : List X) → x ∷ xs ≡ y ∷ ys → xs ≡ ys
same-rest x y xs ys e = cc

same-both : {X : Type 0} (x y : X) (xs ys : List X) → x ≡ y → xs ≡ ys → x ∷ xs ≡ y ∷ ys
same-both x y xs ys e f = cc

pub list-known : {X : Type 0} → ((x y : X) → (x ≡ y) ⊎ (x ≡ y → ⊥)) → (xs ys : List X) → (xs ≡ ys) ⊎ (xs ≡ ys → ⊥)
list-known known [] [] = inl refl
list-known known [] (y ∷ ys) = inr (λ e. some-or-none y ys e)
list-known known (x ∷ xs) [] = inr (λ e. none-or-some x xs e)
list-known known (x ∷ xs) (y ∷ ys) =
    known-by (λ p. same-both x y xs ys p.0 p.1) (λ e. (same-first x y xs ys e, same-rest x y xs ys e)) (both (known x y) (list-known known xs ys))

pub text-known : (one other : List ℕ) → (one ≡ other) ⊎ (one ≡ other → ⊥)
text-known = list-known number-known
