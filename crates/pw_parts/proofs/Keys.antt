-- Records in their order.
use Rattle.std.proofs.Common.{◌≡◌, ℕ, List, [], ◌∷◌, ◌++◌, refl, sym, subst, inl, inr, ◌⊎◌, Ordering, Less, Equal, Greater}
use Rattle.std.specs.Cmp.{nat_cmp_is}
use Rattle.std.specs.Cmp.Lexicographic.{slice_cmp, nat_list_cmp_total}
use Rattle.std.specs.FinMap.{nat_cmp-IsAntisymmetric, slice_cmp-IsAntisymmetric}
use Rattle.std.specs.Ordering.{nat_cmp, ordering_then}
use Rattle.pw_model.specs.declared.records.Key.{Key}
use Rattle.pw_model.specs.declared.records.Entry.{Entry}
use Rattle.pw_model.specs.Counting.{Counts}
use Rattle.pw_model.specs.Same.{key_order, key_numbers, content_numbers, entry_order}
use Rattle.pw_model.proofs.Same.{key-numbers-one}

pub key-equal : (k l : Key) → key_order k l ≡ Equal → k ≡ l
key-equal k l h = key-numbers-one k l (slice_cmp-IsAntisymmetric nat_cmp-IsAntisymmetric (key_numbers k) (key_numbers l) h)

not-greater : (o p : Ordering) → ordering_then o p ≡ Less → (o ≡ Less) ⊎ (o ≡ Equal)
not-greater Less p h = inl refl
not-greater Equal p h = inr refl
not-greater Greater p h = absurd (let b : Greater ≡ Less = h in cc)

pub not-both : (k l : Key) → key_order k l ≡ Less → (key_order l k ≡ Less) ⊎ (key_order l k ≡ Equal) → ⊥
not-both k l h (inl i) = let a : key_order k l ≡ _ = nat_list_cmp_total.antisymm (key_numbers k) (key_numbers l) in let b : Less ≡ Greater = rw (h, i) at a in cc
not-both k l h (inr i) = let a : key_order k l ≡ _ = nat_list_cmp_total.antisymm (key_numbers k) (key_numbers l) in let b : Less ≡ Equal = rw (h, i) at a in cc

-- what stands between two records of one key has it too
pub between : (a b c : Entry) → entry_order a b ≡ Less → entry_order b c ≡ Less → c.key ≡ a.key → b.key ≡ a.key
between a b c h i e =
    elim (not-greater (key_order a.key b.key) _ h) [
      | inr q ↦ sym (key-equal a.key b.key q)
      | inl l ↦ (
          let P : Key → Type 0 = λ k. (key_order b.key k ≡ Less) ⊎ (key_order b.key k ≡ Equal) in
          absurd (not-both a.key b.key l (subst P e (not-greater (key_order b.key c.key) _ i))))
    ]

then-not-less : (o p : Ordering) → (o ≡ Less → ⊥) → (p ≡ Less → ⊥) → ordering_then o p ≡ Less → ⊥
then-not-less Less p h i e = h refl
then-not-less Equal p h i e = i e
then-not-less Greater p h i e = let b : Greater ≡ Less = e in cc

-- no record stands before itself
pub entry-apart : (a : Entry) → entry_order a a ≡ Less → ⊥
entry-apart a h =
    let own : (ns : List ℕ) → slice_cmp nat_cmp ns ns ≡ Less → ⊥ = λ ns e. (let q : slice_cmp nat_cmp ns ns ≡ _ = nat_list_cmp_total.antisymm ns ns in let b : Less ≡ Greater = rw e at q in cc) in
    then-not-less (key_order a.key a.key) _ (own (key_numbers a.key)) (own (content_numbers a.content)) h

-- behind equal numbers, the next number tells
pub key-less : (front : List ℕ) (t u : ℕ) → slice_cmp nat_cmp (front ++ t ∷ []) (front ++ u ∷ []) ≡ Less → nat_cmp t u ≡ Less
key-less [] t u e = elim (not-greater (nat_cmp t u) _ e) [
  | inl l ↦ l
  | inr q ↦ absurd (let b : Equal ≡ Less = rw q at e in cc)
]
key-less (x ∷ front) t u e = key-less front t u (rw (sym (nat_cmp_is x x Equal refl)) at e)

-- two records that count stand in the order of their keys
pub keys-apart : (s : List Entry) (a b : Entry) → Counts s a → Counts s b → entry_order a b ≡ Less → key_order a.key b.key ≡ Less
keys-apart s a b c d o = elim (not-greater (key_order a.key b.key) _ o) [
  | inl l ↦ l
  | inr q ↦ (
      let same : b ≡ a = c.1 b d.0 (sym (key-equal a.key b.key q)) in
      let P : Entry → Type 0 = λ x. entry_order a x ≡ Less in
      absurd (entry-apart a (subst P same o)))
]

-- records of other keys stand in the order of their keys
pub key-apart : (a b : Entry) → entry_order a b ≡ Less → (b.key ≡ a.key → ⊥) → key_order a.key b.key ≡ Less
key-apart a b o n = elim (not-greater (key_order a.key b.key) _ o) [
  | inl l ↦ l
  | inr q ↦ absurd (n (sym (key-equal a.key b.key q)))
]
