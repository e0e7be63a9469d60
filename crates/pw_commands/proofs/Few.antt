-- Lists of one element and of three.
use Rattle.std.proofs.Common.{Option, Some, None, IfSome, ◌≡◌, ◌<◌, ◌≤◌, List, [], ◌∷◌, length, get_or, sym, ap, arith}

pub one_alone : {A : Type 0} (xs : List A) (x : A) → 1 ≤ length xs → length xs < 2 → x ≡ get_or xs 0 x → xs ≡ x ∷ []
one_alone [] x a b e = absurd (omega arith)
one_alone (y ∷ []) x a b e = sym (ap (λ z. z ∷ []) e)
one_alone (y ∷ z ∷ ys) x a b e = absurd (omega arith)

pub three_alone : {A : Type 0} (xs : List A) (x y z : A) → 3 ≤ length xs → length xs < 4 → x ≡ get_or xs 0 x → y ≡ get_or xs 1 y → z ≡ get_or xs 2 z → xs ≡ x ∷ y ∷ z ∷ []
three_alone [] x y z a b e f g = absurd (omega arith)
three_alone (p ∷ []) x y z a b e f g = absurd (omega arith)
three_alone (p ∷ q ∷ []) x y z a b e f g = absurd (omega arith)
three_alone (p ∷ q ∷ r ∷ []) x y z a b e f g = cc
three_alone (p ∷ q ∷ r ∷ s ∷ xs) x y z a b e f g = absurd (omega arith)

pub for_some : {A : Type 0} {P Q : A → Type 0} (r : Option A) → ((a : A) → P a → Q a) → IfSome r P → IfSome r Q
for_some None f h = tt
for_some (Some a) f h = f a h
