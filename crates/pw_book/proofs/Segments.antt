-- A list in order, put together from one part behind another.
use Rattle.std.proofs.Common.{◌≡◌, ℕ, zero, suc, ◌+◌, ◌*◌, ◌<◌, List, [], ◌∷◌, ◌++◌, get_or, ◌↔◌, refl, sym, subst, inl, inr, ◌⊎◌, arith, Ordering, Less, Equal}
use Rattle.std.specs.Cmp.{nat_cmp_is}
use Rattle.std.specs.Cmp.Lexicographic.{slice_cmp}
use Rattle.std.specs.Ordering.{nat_cmp}
use Rattle.std.proofs.lemmas.Bool.{cases_lt}
use Rattle.pw_obis.specs.declared.reference.Register.{Register}
use Rattle.pw_obis.specs.declared.reference.Register.TheVariants.{I0, I1, I2, E0, E1, E2}
use Rattle.pw_obis.specs.Registers.{registers}
use Rattle.pw_tariff.specs.Office.{register_place}
use Rattle.pw_model.specs.Counting.{Member}
use Rattle.pw_model.specs.Lists.{IsInOrder, Lists}
use Rattle.pw_model.proofs.Places.{member-left, member-right, member-split}
use Rattle.pw_model.proofs.InOrder.{before-member}
use Rattle.pw_model.proofs.EntryOrder.{before-all}

module _ {X : Type 0} (order : X → X → Ordering) where
  rising-joined : (xs ys : List X) → IsInOrder order xs → IsInOrder order ys → ((x y : X) → Member x xs → Member y ys → order x y ≡ Less) → IsInOrder order (xs ++ ys)
  rising-joined [] ys r s h = s
  rising-joined (x ∷ xs) ys r s h = (
    before-all order x (xs ++ ys) (λ z m. elim (member-split z xs ys m) [ inl a ↦ before-member order x z xs r.0 a | inr b ↦ h x z (inl refl) b ]),
    rising-joined xs ys r.1 s (λ a b m n. h a b (inr m) n),
  )

  -- the part at the next place
  pub segment-more : (P Q : X → Type 0) (place : X → ℕ) (n : ℕ) (old more : List X) → Lists order (λ x. P x × (place x < n)) old → Lists order (λ x. P x × Q x) more →
      ((x : X) → P x → Q x ↔ (place x ≡ n)) → ((x y : X) → P x → P y → place x < place y → order x y ≡ Less) → Lists order (λ x. P x × (place x < n + 1)) (old ++ more)
  segment-more P Q place n old more a b q o = record {
    rising = rising-joined old more a.rising b.rising (λ x y m k.
        let f = (a.members x).0 m in
        let g = (b.members y).0 k in
        let e = (q y g.0).0 g.1 in
        let l = f.1 in
        o x y f.0 g.0 (omega (arith, e, l)));
    members = λ x. (
      λ m. elim (member-split x old more m) [
        | inl k ↦ (let f = (a.members x).0 k in let l = f.1 in (f.0, omega (arith, l)))
        | inr k ↦ (let g = (b.members x).0 k in let e = (q x g.0).0 g.1 in (g.0, omega (arith, e)))
      ],
      λ p. elim (cases_lt (place x) n) [
        | inl l ↦ member-left x old more ((a.members x).1 (p.0, l))
        | inr l ↦ member-right x old more ((b.members x).1 (p.0, (q x p.0).1 (let k = p.1 in omega (arith, k, l))))
      ],
    );
  }

  pub segment-all : (P : X → Type 0) (place : X → ℕ) (n : ℕ) (xs : List X) → Lists order (λ x. P x × (place x < n)) xs → ((x : X) → P x → place x < n) → Lists order P xs
  segment-all P place n xs a h = record {
    rising = a.rising;
    members = λ x. (λ m. ((a.members x).0 m).0, λ p. (a.members x).1 (p, h x p));
  }

  pub segment-none : (P : X → Type 0) (place : X → ℕ) → Lists order (λ x. P x × (place x < 0)) []
  segment-none P place = record { rising = tt; members = λ x. (λ m. absurd m, λ p. absurd (let l = p.1 in omega (arith, l))) }

  pub segment-at : (P : X → Type 0) (place : X → ℕ) (m n : ℕ) (xs : List X) → m ≡ n → Lists order (λ x. P x × (place x < m)) xs → Lists order (λ x. P x × (place x < n)) xs
  segment-at P place m n xs e a = let F : ℕ → Type 0 = λ k. Lists order (λ x. P x × (place x < k)) xs in subst F e a

-- ---- numbers compared one after the other
pub first-less : (a b : ℕ) (xs ys : List ℕ) → a < b → slice_cmp nat_cmp (a ∷ xs) (b ∷ ys) ≡ Less
first-less a b xs ys l = rw (sym (nat_cmp_is a b Less l)) refl

pub then-less : (a b : ℕ) (xs ys : List ℕ) → a ≡ b → slice_cmp nat_cmp xs ys ≡ Less → slice_cmp nat_cmp (a ∷ xs) (b ∷ ys) ≡ Less
then-less a b xs ys e h = rw (sym (nat_cmp_is a b Equal e)) h

-- ---- the six registers in their order
pub place-few : (r : Register) → register_place r < 6
place-few I0 = omega arith
place-few I1 = omega arith
place-few I2 = omega arith
place-few E0 = omega arith
place-few E1 = omega arith
place-few E2 = omega arith

pub place-at : (i : ℕ) (d : Register) → i < 6 → register_place (get_or registers i d) ≡ i
place-at zero d l = refl
place-at (suc zero) d l = refl
place-at (suc (suc zero)) d l = refl
place-at (suc (suc (suc zero))) d l = refl
place-at (suc (suc (suc (suc zero)))) d l = refl
place-at (suc (suc (suc (suc (suc zero))))) d l = refl
place-at (suc (suc (suc (suc (suc (suc i)))))) d l = absurd (omega (arith, l))

-- the meter, and then the register, tell two places apart
pub places-split : (m n p q : ℕ) → p < 6 → q < 6 → 6 * m + p < 6 * n + q → (m < n) ⊎ ((m ≡ n) × (p < q))
places-split m n p q a b l = elim (cases_lt m n) [
  | inl h ↦ inl h
  | inr h ↦ elim (cases_lt n m) [
    | inl k ↦ absurd (omega (arith, a, b, l, k))
    | inr k ↦ inr (omega (arith, h, k), omega (arith, a, b, l, h, k))
  ]
]

pub places-same : (m n p q : ℕ) → p < 6 → q < 6 → 6 * m + p ≡ 6 * n + q → (m ≡ n) × (p ≡ q)
places-same m n p q a b e = (omega (arith, a, b, e), omega (arith, a, b, e))
