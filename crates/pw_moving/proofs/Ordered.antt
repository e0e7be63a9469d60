-- Changes that are put one behind another stand in order.
use Rattle.std.proofs.Common.{◌≡◌, ◌↔◌, ◌⊎◌, List, [], ◌∷◌, ◌++◌, refl, ap, sym, subst, ◌∙◌, inl, inr}
use Rattle.std.specs.declared.cmp.Ordering.{Ordering}
use Rattle.std.specs.declared.cmp.Ordering.TheVariants.{Less}
use Rattle.pw_model.specs.Counting.{Member}
use Rattle.pw_model.specs.Lists.{IsBeforeAll, IsInOrder, Lists}
use Rattle.pw_moving.specs.inner.Comparing.{Puts}
use Rattle.pw_moving.specs.declared.change.Change.{Change}

-- ---- members of two lists, one behind the other
member-either : {X : Type 0} (x : X) (xs ys : List X) → Member x (xs ++ ys) → Member x xs ⊎ Member x ys
member-either x [] ys m = inr m
member-either x (y ∷ xs) ys (inl i) = inl (inl i)
member-either x (y ∷ xs) ys (inr m) = elim (member-either x xs ys m) [ inl k ↦ inl (inr k) | inr k ↦ inr k ]

member-first : {X : Type 0} (x : X) (xs ys : List X) → Member x xs → Member x (xs ++ ys)
member-first x [] ys m = absurd m
member-first x (y ∷ xs) ys (inl i) = inl i
member-first x (y ∷ xs) ys (inr m) = inr (member-first x xs ys m)

member-second : {X : Type 0} (x : X) (xs ys : List X) → Member x ys → Member x (xs ++ ys)
member-second x [] ys m = m
member-second x (y ∷ xs) ys m = inr (member-second x xs ys m)

module _ {X : Type 0} (order : X → X → Ordering) where
  before-both : (x : X) (xs ys : List X) → IsBeforeAll order x xs → ((y : X) → Member y ys → order x y ≡ Less) → IsBeforeAll order x (xs ++ ys)
  before-both x [] ys h k = behind ys k
    where
      behind : (ys : List X) → ((y : X) → Member y ys → order x y ≡ Less) → IsBeforeAll order x ys
      behind [] k = tt
      behind (y ∷ ys) k = (k y (inl refl), behind ys (λ z m. k z (inr m)))
  before-both x (y ∷ xs) ys h k = (h.0, before-both x xs ys h.1 k)

  in-order_both : (xs ys : List X) → IsInOrder order xs → IsInOrder order ys → ((x y : X) → Member x xs → Member y ys → order x y ≡ Less) → IsInOrder order (xs ++ ys)
  in-order_both [] ys h i k = i
  in-order_both (x ∷ xs) ys h i k = (before-both x xs ys h.0 (λ y m. k x y (inl refl) m), in-order_both xs ys h.1 i (λ z y m n. k z y (inr m) n))

  -- all that P holds of, and behind it all that Q holds of
  pub lists-both : (P Q R : X → Type 0) (xs ys : List X) → Lists order P xs → Lists order Q ys → ((x y : X) → P x → Q y → order x y ≡ Less) → ((x : X) → R x ↔ (P x ⊎ Q x)) → Lists order R (xs ++ ys)
  lists-both P Q R xs ys p q before either = record {
    rising = in-order_both xs ys p.rising q.rising (λ x y m n. before x y ((p.members x).0 m) ((q.members y).0 n));
    members = λ x. (
      λ m. (either x).1 (elim (member-either x xs ys m) [ inl k ↦ inl ((p.members x).0 k) | inr k ↦ inr ((q.members x).0 k) ]),
      λ h. elim ((either x).0 h) [ inl k ↦ member-first x xs ys ((p.members x).1 k) | inr k ↦ member-second x xs ys ((q.members x).1 k) ],
    );
  }

  -- nothing, and one alone
  pub lists-none : (P : X → Type 0) → ((x : X) → P x → ⊥) → Lists order P []
  lists-none P h = record { rising = tt; members = λ x. (λ m. absurd m, λ p. h x p) }

  pub lists-one : (P : X → Type 0) (x : X) → P x → ((y : X) → P y → y ≡ x) → Lists order P (x ∷ [])
  lists-one P x p only = record {
    rising = (tt, tt);
    members = λ y. (
      λ m. elim m [ inl i ↦ (subst P (sym i) p) | inr k ↦ absurd k ],
      λ h. inl (only y h),
    );
  }

-- ---- what is put behind what was put
append-again : (xs ys zs : List Change) → (xs ++ ys) ++ zs ≡ xs ++ (ys ++ zs)
append-again [] ys zs = refl
append-again (x ∷ xs) ys zs = ap (λ (l : List Change). x ∷ l) (append-again xs ys zs)

pub puts-both : (P Q R : List Change → Type 0) (a b c : List Change) → ((xs ys : List Change) → P xs → Q ys → R (xs ++ ys)) → Puts P a b → Puts Q b c → Puts R a c
puts-both P Q R a b c join p q = (
  p.0 ++ q.0,
  q.1 ∙ ap (λ (l : List Change). l ++ q.0) p.1 ∙ append-again a p.0 q.0,
  join p.0 q.0 p.2 q.2,
)

append-none : (xs : List Change) → xs ≡ xs ++ []
append-none [] = refl
append-none (x ∷ xs) = ap (λ (l : List Change). x ∷ l) (append-none xs)

pub puts-none : (P : List Change → Type 0) (a : List Change) → P [] → Puts P a a
puts-none P a p = ([], append-none a, p)
