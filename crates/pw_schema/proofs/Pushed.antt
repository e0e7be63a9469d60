-- Lists in order, with one more behind the last.
use Rattle.std.proofs.Common.{◌≡◌, List, [], ◌∷◌, ◌++◌, refl, sym, subst, inl, inr, Ordering, Option, Some, None, IfSome}
use Rattle.std.specs.List.{AllByRecursion}
use Rattle.std.specs.declared.cmp.Ordering.TheVariants.{Less}
use Rattle.pw_model.specs.Counting.{Member}
use Rattle.pw_model.specs.Lists.{IsInOrder, IsBeforeAll}
use Rattle.pw_schema.specs.Judges.{IsLast}

pub all_push : {X : Type 0} (P : X → Type 0) (x : X) (xs : List X) → AllByRecursion P xs → P x → AllByRecursion P (xs ++ x ∷ [])
all_push P x [] all one = (one, tt)
all_push P x (y ∷ xs) all one = (all.0, all_push P x xs all.1 one)

module _ {X : Type 0} (order : X → X → Ordering) (trans : (x y z : X) → order x y ≡ Less → order y z ≡ Less → order x z ≡ Less) where
  ends : (z l : X) (front : List X) → IsBeforeAll order z (front ++ l ∷ []) → order z l ≡ Less
  ends z l [] b = b.0
  ends z l (y ∷ front) b = ends z l front b.1

  -- what stands behind the last stands behind all
  all_before : (front : List X) (l e : X) → IsInOrder order (front ++ l ∷ []) → order l e ≡ Less → (x : X) → Member x (front ++ l ∷ []) → order x e ≡ Less
  all_before [] l e r h x (inl i) = subst (λ y. order y e ≡ Less) (sym i) h
  all_before [] l e r h x (inr n) = absurd n
  all_before (z ∷ front) l e r h x (inl i) = subst (λ y. order y e ≡ Less) (sym i) (trans z l e (ends z l front r.0) h)
  all_before (z ∷ front) l e r h x (inr n) = all_before front l e r.1 h x n

  before_push : (x e : X) (xs : List X) → IsBeforeAll order x xs → order x e ≡ Less → IsBeforeAll order x (xs ++ e ∷ [])
  before_push x e [] h l = (l, tt)
  before_push x e (z ∷ xs) h l = (h.0, before_push x e xs h.1 l)

  rising_push : (e : X) (xs : List X) → IsInOrder order xs → ((x : X) → Member x xs → order x e ≡ Less) → IsInOrder order (xs ++ e ∷ [])
  rising_push e [] h l = (tt, tt)
  rising_push e (z ∷ xs) h l = (before_push z e xs h.0 (l z (inl refl)), rising_push e xs h.1 (λ x m. l x (inr m)))

  pub first_push : (xs : List X) (e : X) → xs ≡ [] → IsInOrder order (xs ++ e ∷ [])
  first_push xs e is = subst (λ ys. IsInOrder order (ys ++ e ∷ [])) (sym is) (tt, tt)

  pub last_push : (xs front : List X) (l e : X) → xs ≡ front ++ l ∷ [] → IsInOrder order xs → order l e ≡ Less → IsInOrder order (xs ++ e ∷ [])
  last_push xs front l e is rising low = rising_push e xs rising (λ x m. all_before front l e (subst (IsInOrder order) is rising) low x (subst (Member x) is m))

  pub behind_push : (last : Option X) (xs : List X) (e : X) → IsInOrder order xs → IsLast last xs → IfSome last (λ l. order l e ≡ Less) → IsInOrder order (xs ++ e ∷ [])
  behind_push None xs e rising is low = first_push xs e is
  behind_push (Some l) xs e rising is low = last_push xs is.0 l e is.1 rising low
