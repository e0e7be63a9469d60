-- The records of a set in order that have keys of one kind, as far as they were seen.
use Rattle.std.proofs.Common.{◌≡◌, List, [], ◌∷◌, ◌++◌, map, Bor, refl, sym, ap, subst, ◌∙◌, inl, inr, ◌⊎◌}
use Rattle.std.specs.List.{AllByRecursion}
use Rattle.std.specs.List.Sorted.{IsStrictlySortedBy}
use Rattle.std.specs.declared.cmp.Ordering.{Ordering}
use Rattle.std.specs.declared.cmp.Ordering.TheVariants.{Less}
use Rattle.std.specs.Iterator.{Yields}
use Rattle.std.proofs.lemmas.List.{map-append}
use Rattle.std.specs.Map.Iter.{TakesFirst, deref}
use Rattle.std.proofs.lemmas.Map.Iter.{rest_so_far}
use Rattle.pw_model.specs.declared.records.Key.{Key}
use Rattle.pw_model.specs.declared.records.Key.TheVariants as key
use Rattle.pw_model.specs.declared.records.Named.TheVariants as named
use Rattle.pw_model.specs.declared.records.Entry.{Entry}
use Rattle.pw_model.specs.Counting.{Member}
use Rattle.pw_model.specs.Lists.{IsBeforeAll, IsInOrder}
use Rattle.pw_model.specs.Same.{entry_order}
use Rattle.pw_model.specs.inner.Keys.{HasReference}
use Rattle.pw_model.proofs.InKeyOrder.{entries-ordered}
use Rattle.pw_shelf.specs.inner.Held.{AreNamed, IsNamed}
use Rattle.pw_model.specs.Kinds.{ListsHeld}
use Rattle.pw_shelf.proofs.InOrder.{order}

-- ---- the derived order and the model's
pub reference : (k : Key) → IsNamed k → HasReference k
reference (key.Reading m r t) n = tt
reference (key.Assignment m t) n = tt
reference (key.TopUp r) n = n
reference (key.Withdrawal (named.Reading m r t w)) n = tt
reference (key.Withdrawal (named.Assignment m t o)) n = tt
reference (key.Withdrawal (named.TopUp r a c t)) n = n

before-all : (x : Entry) (xs : List Entry) → IsNamed x.key → ((e : Entry) → Member e xs → IsNamed e.key) → AllByRecursion (λ y. order x y ≡ Less) xs → IsBeforeAll entry_order x xs
before-all x [] n m h = tt
before-all x (y ∷ ys) n m h = (sym (entries-ordered x y (reference x.key n) (reference y.key (m y (inl refl)))) ∙ h.0, before-all x ys n (λ e i. m e (inr i)) h.1)

pub rising : (xs : List Entry) → AreNamed xs → IsStrictlySortedBy order xs → IsInOrder entry_order xs
unfolding IsStrictlySortedBy
rising [] n h = tt
rising (x ∷ xs) n h = (before-all x xs (n x (inl refl)) (λ e i. n e (inr i)) h.0, rising xs (λ e i. n e (inr i)) h.1)

-- ---- one more behind
module _ {X : Type 0} (o : X → X → Ordering) where
  before-behind : (x e : X) (xs ys : List X) → IsBeforeAll o x (xs ++ e ∷ ys) → o x e ≡ Less
  before-behind x e [] ys h = h.0
  before-behind x e (z ∷ xs) ys h = before-behind x e xs ys h.1

  -- in a rising list each stands before what stands behind it
  pub split-before : (x e : X) (xs ys : List X) → IsInOrder o (xs ++ e ∷ ys) → Member x xs → o x e ≡ Less
  split-before x e [] ys h m = absurd m
  split-before x e (z ∷ xs) ys h m =
      elim m [
        | inl i ↦ (let P : X → Type 0 = λ v. o v e ≡ Less in subst P (sym i) (before-behind z e xs ys h.0))
        | inr j ↦ split-before x e xs ys h.1 j
      ]

  before-push : (x e : X) (xs : List X) → IsBeforeAll o x xs → o x e ≡ Less → IsBeforeAll o x (xs ++ e ∷ [])
  before-push x e [] h l = (l, tt)
  before-push x e (z ∷ xs) h l = (h.0, before-push x e xs h.1 l)

  rising-push : (e : X) (xs : List X) → IsInOrder o xs → ((x : X) → Member x xs → o x e ≡ Less) → IsInOrder o (xs ++ e ∷ [])
  rising-push e [] h l = (tt, tt)
  rising-push e (z ∷ xs) h l = (before-push z e xs h.0 (l z (inl refl)), rising-push e xs h.1 (λ x m. l x (inr m)))

pub member-front : {X : Type 0} (x : X) (xs ys : List X) → Member x xs → Member x (xs ++ ys)
member-front x [] ys m = absurd m
member-front x (z ∷ xs) ys (inl i) = inl i
member-front x (z ∷ xs) ys (inr m) = inr (member-front x xs ys m)

pub member-last : {X : Type 0} (x : X) (xs : List X) → Member x (xs ++ x ∷ [])
member-last x [] = inl refl
member-last x (z ∷ xs) = inr (member-last x xs)

pub member-push : {X : Type 0} (x e : X) (xs : List X) → Member x (xs ++ e ∷ []) → Member x xs ⊎ (x ≡ e)
member-push x e [] (inl i) = inr i
member-push x e [] (inr m) = absurd m
member-push x e (z ∷ xs) (inl i) = inl (inl i)
member-push x e (z ∷ xs) (inr m) = elim (member-push x e xs m) [ inl j ↦ inl (inr j) | inr i ↦ inr i ]

-- ---- the records seen so far, and those found among them
module _ (Of : Key → Type 0) where
  pub listed-none : ListsHeld Of [] []
  listed-none = record { rising = tt; members = λ x. (λ m. absurd m, λ p. p.0) }

  pub listed-skip : (seen : List Entry) (e : Entry) (found : List Entry) → ListsHeld Of seen found → (Of e.key → ⊥) → ListsHeld Of (seen ++ e ∷ []) found
  listed-skip seen e found h n = record {
    rising = h.rising;
    members = λ x. (
      λ m. (let p = (h.members x).0 m in (member-front x seen (e ∷ []) p.0, p.1)),
      λ p. elim (member-push x e seen p.0) [
        | inl m ↦ (h.members x).1 (m, p.1)
        | inr i ↦ (let P : Entry → Type 0 = λ v. Of v.key in absurd (n (subst P i p.1)))
      ],
    );
  }

  pub listed-take : (seen : List Entry) (e : Entry) (found : List Entry) → ((x : Entry) → Member x seen → entry_order x e ≡ Less) → ListsHeld Of seen found → Of e.key → ListsHeld Of (seen ++ e ∷ []) (found ++ e ∷ [])
  listed-take seen e found l h o = record {
    rising = rising-push entry_order e found h.rising (λ x m. l x ((h.members x).0 m).0);
    members = λ x. (
      λ m. elim (member-push x e found m) [
        | inl j ↦ (let p = (h.members x).0 j in (member-front x seen (e ∷ []) p.0, p.1))
        | inr i ↦ (let P : Entry → Type 0 = λ v. Member v (seen ++ e ∷ []) × Of v.key in subst P (sym i) (member-last e seen, o))
      ],
      λ p. elim (member-push x e seen p.0) [
        | inl m ↦ member-front x found (e ∷ []) ((h.members x).1 (m, p.1))
        | inr i ↦ (let P : Entry → Type 0 = λ v. Member v (found ++ e ∷ []) in subst P (sym i) (member-last e found))
      ],
    );
  }

-- ---- a turn of a loop over the set
pub split : (keys : List Entry) (xs : List (Bor Entry)) (s t u : List Entry) (x : Bor Entry) → s ≡ keys → Yields (TakesFirst deref) s xs t → t ≡ deref x ∷ u → keys ≡ map deref xs ++ x.now ∷ u
split keys xs s t u x start y step = sym start ∙ rest_so_far deref xs s t y ∙ ap (λ l. map deref xs ++ l) step

module _ (Of : Key → Type 0) (keys : List Entry) (named : AreNamed keys) (sorted : IsStrictlySortedBy order keys)
    (xs : List (Bor Entry)) (s t u : List Entry) (x : Bor Entry) (start : s ≡ keys) (y : Yields (TakesFirst deref) s xs t) (step : t ≡ deref x ∷ u) where
  earlier : (e : Entry) → Member e (map deref xs) → entry_order e x.now ≡ Less
  earlier e m = split-before entry_order e x.now (map deref xs) u (subst (IsInOrder entry_order) (split keys xs s t u x start y step) (rising keys named sorted)) m

  pub turn-skip : (found : List Entry) → ListsHeld Of (map deref xs) found → (Of x.now.key → ⊥) → ListsHeld Of (map deref (xs ++ x ∷ [])) found
  turn-skip found h n = let e : map deref (xs ++ x ∷ []) ≡ map deref xs ++ x.now ∷ [] = map-append deref xs (x ∷ []) in
      rw e (listed-skip Of (map deref xs) x.now found h n)

  pub turn-take : (found new : List Entry) → ListsHeld Of (map deref xs) found → Of x.now.key → new ≡ found ++ x.now ∷ [] → ListsHeld Of (map deref (xs ++ x ∷ [])) new
  turn-take found new h o i = let e : map deref (xs ++ x ∷ []) ≡ map deref xs ++ x.now ∷ [] = map-append deref xs (x ∷ []) in
      rw (e, i) (listed-take Of (map deref xs) x.now found earlier h o)
