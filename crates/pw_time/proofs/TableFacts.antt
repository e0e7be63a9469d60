-- The table of changes, computed.
use Rattle.std.proofs.Common.{◌≡◌, ◌≤◌, ◌<◌, ◌&&◌, ◌∷◌, ℕ, List, [], Bool, true, zero, suc, length, get_or, leb, leb-true, refl, arith, subst}
use Rattle.std.specs.List.Sorted.{IsNonDecreasing}
use Rattle.jiff.proofs.OnLiterals.{jiff_on_literals}
use Rattle.pw_time.specs.declared.changes.TheConstants.{CHANGES}
use Rattle.pw_time.specs.Summer.{central_changes, summer_start, summer_end}

pub table_is : CHANGES ≡ central_changes
unfolding central_changes summer_start summer_end jiff_on_literals
table_is = refl

-- no element is above the next one
abbrev rises : List ℕ → Bool
rises [] = true
rises (x ∷ []) = true
rises (x ∷ y ∷ rest) = leb x y && rises (y ∷ rest)

both : (a b : Bool) → (a && b) ≡ true → (a ≡ true) × (b ≡ true)
both a b h = (grind (arith, h), grind (arith, h))

head_below : (x : ℕ) (xs : List ℕ) → rises (x ∷ xs) ≡ true → (j d : ℕ) → j < length xs → x ≤ get_or xs j d
head_below x [] r j d h = absurd (omega arith)
head_below x (y ∷ ys) r zero d h = leb-true x y (both (leb x y) (rises (y ∷ ys)) r).0
head_below x (y ∷ ys) r (suc j) d h =
    let here = leb-true x y (both (leb x y) (rises (y ∷ ys)) r).0 in
    let later = head_below y ys (both (leb x y) (rises (y ∷ ys)) r).1 j d (omega arith) in
    omega (arith, here, later)

tail_rises : (x : ℕ) (xs : List ℕ) → rises (x ∷ xs) ≡ true → rises xs ≡ true
tail_rises x [] r = refl
tail_rises x (y ∷ ys) r = (both (leb x y) (rises (y ∷ ys)) r).1

rises_sorted : (xs : List ℕ) → rises xs ≡ true → IsNonDecreasing xs
rises_sorted [] r i j d le h = absurd (omega arith)
rises_sorted (x ∷ xs) r zero zero d le h = omega arith
rises_sorted (x ∷ xs) r zero (suc j) d le h = head_below x xs r j d (omega arith)
rises_sorted (x ∷ xs) r (suc i) zero d le h = absurd (omega arith)
rises_sorted (x ∷ xs) r (suc i) (suc j) d le h = rises_sorted xs (tail_rises x xs r) i j d (omega arith) (omega arith)

pub changes_sorted : IsNonDecreasing central_changes
changes_sorted = subst IsNonDecreasing table_is (rises_sorted CHANGES refl)
