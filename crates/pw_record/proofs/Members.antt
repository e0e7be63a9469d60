-- Members of a list with one more.
use Rattle.std.proofs.Common.{◌≡◌, List, [], ◌∷◌, ◌++◌, refl, inl, inr, ◌⊎◌, ⊎_elim}
use Rattle.pw_model.specs.Counting.{Member}

pub member-left : {X : Type 0} (x : X) (xs ys : List X) → Member x xs → Member x (xs ++ ys)
member-left x [] ys m = absurd m
member-left x (z ∷ zs) ys m = ⊎_elim (λ (i : x ≡ z). inl i) (λ (n : Member x zs). inr (member-left x zs ys n)) m

pub member-last : {X : Type 0} (x : X) (xs : List X) → Member x (xs ++ x ∷ [])
member-last x [] = inl refl
member-last x (z ∷ zs) = inr (member-last x zs)

pub member-split : {X : Type 0} (x y : X) (xs : List X) → Member x (xs ++ y ∷ []) → Member x xs ⊎ (x ≡ y)
member-split x y [] m = ⊎_elim (λ (i : x ≡ y). inr i) (λ n. absurd n) m
member-split x y (z ∷ zs) m = ⊎_elim
    (λ (i : x ≡ z). inl (inl i))
    (λ (n : Member x (zs ++ y ∷ [])). ⊎_elim (λ (k : Member x zs). inl (inr k)) (λ (i : x ≡ y). inr i) (member-split x y zs n))
    m
