use Rattle.std.proofs.Common.{arith, ◌≡◌, ◌<◌, ◌==◌, ℕ, List, [], ◌∷◌, map, length, Bool, IsTrue, Bor, ap, get_or}
use Rattle.sqlite_schema.specs.declared.schema.Column.{Column}
use Rattle.pw_schema.specs.Tables.{of_integers}

pub none_named : (columns : List Column) (names : List (Bor (List ℕ))) → length columns < 1 → columns ≡ of_integers (map (λ n. n.now) names) → {b : Bool} → b ≡ (length names == 0) → IsTrue b
none_named columns [] short e {b} is = is
none_named columns (n ∷ names) short e {b} is = absurd (omega (arith, ap length e, short))

pub one_item : {A : Type 0} (xs : List A) (k d : A) → length xs ≡ 1 → get_or xs 0 d ≡ k → xs ≡ k ∷ []
one_item [] k d len e = absurd (omega (arith, len))
one_item (x ∷ []) k d len e = ap (λ y. y ∷ []) e
one_item (x ∷ y ∷ xs) k d len e = absurd (omega (arith, len))
