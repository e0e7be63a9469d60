-- The fields of a record from its first or its second on, where they are three or four.
use Rattle.std.proofs.Common.{◌≡◌, ◌<◌, ◌≤◌, ◌+◌, ℕ, zero, suc, List, [], ◌∷◌, drop, length, Some, None, Bool, IsTrue, ◌↔◌, sym, ap, ◌∙◌, arith}
use Rattle.std.proofs.lemmas.List.{length-drop}
use Rattle.csv.specs.Records.{field_at}

all_three : (xs : List (List ℕ)) (a b c : List ℕ) → length xs ≡ 3 → field_at xs 0 ≡ Some a → field_at xs 1 ≡ Some b → field_at xs 2 ≡ Some c → xs ≡ a ∷ b ∷ c ∷ []
unfolding field_at
all_three (x ∷ y ∷ z ∷ []) a b c n p q r = grind (arith, p, q, r)
all_three [] a b c n p q r = absurd (omega (arith, n))
all_three (x ∷ []) a b c n p q r = absurd (omega (arith, n))
all_three (x ∷ y ∷ []) a b c n p q r = absurd (omega (arith, n))
all_three (x ∷ y ∷ z ∷ w ∷ t) a b c n p q r = absurd (omega (arith, n))

all_four : (xs : List (List ℕ)) (a b c d : List ℕ) → length xs ≡ 4 → field_at xs 0 ≡ Some a → field_at xs 1 ≡ Some b → field_at xs 2 ≡ Some c → field_at xs 3 ≡ Some d
    → xs ≡ a ∷ b ∷ c ∷ d ∷ []
unfolding field_at
all_four (x ∷ y ∷ z ∷ w ∷ []) a b c d n p q r s = grind (arith, p, q, r, s)
all_four [] a b c d n p q r s = absurd (omega (arith, n))
all_four (x ∷ []) a b c d n p q r s = absurd (omega (arith, n))
all_four (x ∷ y ∷ []) a b c d n p q r s = absurd (omega (arith, n))
all_four (x ∷ y ∷ z ∷ []) a b c d n p q r s = absurd (omega (arith, n))
all_four (x ∷ y ∷ z ∷ w ∷ v ∷ t) a b c d n p q r s = absurd (omega (arith, n))

pub three_fields : (xs : List (List ℕ)) (i : ℕ) (a b c : List ℕ) → i ≤ 1 → length xs ≡ i + 3 → field_at xs i ≡ Some a → field_at xs (i + 1) ≡ Some b → field_at xs (i + 2) ≡ Some c
    → drop i xs ≡ a ∷ b ∷ c ∷ []
unfolding field_at
three_fields xs zero a b c l n p q r = all_three xs a b c n p q r
three_fields [] (suc zero) a b c l n p q r = absurd (omega (arith, n))
three_fields (x ∷ xs) (suc zero) a b c l n p q r = all_three xs a b c (omega (arith, n)) p q r
three_fields xs (suc (suc i)) a b c l n p q r = absurd (omega (arith, l))

pub four_fields : (xs : List (List ℕ)) (i : ℕ) (a b c d : List ℕ) → i ≤ 1 → length xs ≡ i + 4 → field_at xs i ≡ Some a → field_at xs (i + 1) ≡ Some b → field_at xs (i + 2) ≡ Some c
    → field_at xs (i + 3) ≡ Some d → drop i xs ≡ a ∷ b ∷ c ∷ d ∷ []
unfolding field_at
four_fields xs zero a b c d l n p q r s = all_four xs a b c d n p q r s
four_fields [] (suc zero) a b c d l n p q r s = absurd (omega (arith, n))
four_fields (x ∷ xs) (suc zero) a b c d l n p q r s = all_four xs a b c d (omega (arith, n)) p q r s
four_fields xs (suc (suc i)) a b c d l n p q r s = absurd (omega (arith, l))

-- other than n of them
pub not_so_many : (xs : List (List ℕ)) (i n : ℕ) → 1 ≤ n → (length xs ≡ i + n → ⊥) → length (drop i xs) ≡ n → ⊥
not_so_many xs i n l m e = m (omega (arith, l, e, length-drop i xs))

pub field_there : (xs : List (List ℕ)) (i : ℕ) → i < length xs → field_at xs i ≡ None → ⊥
unfolding field_at
field_there [] i h e = omega (arith, h)
field_there (x ∷ xs) zero h e = cc
field_there (x ∷ xs) (suc i) h e = field_there xs i (omega arith) e

first_is : (a b : List ℕ) (xs : List (List ℕ)) → a ∷ xs ≡ b ∷ xs → a ≡ b
first_is a b xs e = cc

-- the first field, and those behind it
pub first_field : (xs : List (List ℕ)) (a : List ℕ) → field_at xs 0 ≡ Some a → xs ≡ a ∷ drop 1 xs
unfolding field_at
first_field [] a e = absurd (let n : None ≡ Some a = e in cc)
first_field (x ∷ xs) a e = let i : x ≡ a = cc in ap (λ (f : List ℕ). f ∷ xs) i

-- a row begins with a text where its first field is the text
pub begins : (xs : List (List ℕ)) (a b : List ℕ) (r : Bool) → field_at xs 0 ≡ Some a → IsTrue r ↔ (a ≡ b) → IsTrue r ↔ (xs ≡ b ∷ drop 1 xs)
begins xs a b r f e =
    let here : xs ≡ a ∷ drop 1 xs = first_field xs a f in (
      λ t. here ∙ ap (λ (c : List ℕ). c ∷ drop 1 xs) (e.0 t),
      λ i. e.1 (first_is a b (drop 1 xs) (sym here ∙ i)),
    )

pub none_there : (xs : List (List ℕ)) (a : List ℕ) (rest : List (List ℕ)) → field_at xs 0 ≡ None → xs ≡ a ∷ rest → ⊥
unfolding field_at
none_there [] a rest n e = absurd (let m : [] ≡ a ∷ rest = e in cc)
none_there (x ∷ xs) a rest n e = absurd (let m : Some x ≡ None = n in cc)
