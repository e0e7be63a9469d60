-- No two names of a list are the same where each was new behind those before it.
use Rattle.std.proofs.Common.{◌≡◌, ◌||◌, ℕ, zero, suc, Some, slice_get, List, [], ◌∷◌, ◌++◌, length, map, not, Bool, true, false, refl, ap}
use Rattle.std.proofs.lemmas.Option.{none-some, same_Some}
use Rattle.pw_tariff.specs.Checks.{Check, each_in_turn}
use Rattle.pw_tariff.specs.inner.Checks.{Passes}
use Rattle.pw_tariff.specs.Office.{AreDistinct}
use Rattle.pw_tariff.specs.Words.{same_text, is_new}
use Rattle.pw_tariff.proofs.Named.{own-text}
use Rattle.pw_tariff.proofs.Behind.{left, right}

no-truth : false ≡ true → ⊥
no-truth h = cc

neither : (b c : Bool) → not (b || c) ≡ true → (b ≡ false) × (not c ≡ true)
neither true c h = absurd (no-truth h)
neither false c h = (refl, h)

-- a name that stands among the earlier ones isn't new
met : (earlier : List (List ℕ)) (name : List ℕ) (i : ℕ) → is_new name earlier ≡ true → slice_get earlier i ≡ Some name → ⊥
met [] name i n h = none-some name h
met (e ∷ earlier) name zero n h =
    let own : same_text e name ≡ true = rw (same_Some e name h) (own-text name) in
    no-truth (rw own at n)
met (e ∷ earlier) name (suc i) n h = met earlier name i (neither (same_text e name) _ n).1 h

-- a place of the first of two lists, and the first place of the second
get-left : {A : Type 0} (xs ys : List A) (i : ℕ) (x : A) → slice_get xs i ≡ Some x → slice_get (xs ++ ys) i ≡ Some x
get-left [] ys i x h = absurd (none-some x h)
get-left (a ∷ xs) ys zero x h = h
get-left (a ∷ xs) ys (suc i) x h = get-left xs ys i x h

get-seam : {A : Type 0} (xs : List A) (y : A) (ys : List A) → slice_get (xs ++ y ∷ ys) (length xs) ≡ Some y
get-seam [] y ys = refl
get-seam (a ∷ xs) y ys = get-seam xs y ys

-- no earlier name is one of these
abbrev AreApart : List (List ℕ) → List (List ℕ) → Type 0
AreApart earlier names = (i j : ℕ) (n : List ℕ) → slice_get earlier i ≡ Some n → slice_get names j ≡ Some n → ⊥

apart-more : (earlier : List (List ℕ)) (a : List ℕ) (names : List (List ℕ)) → is_new a earlier ≡ true → AreApart (earlier ++ a ∷ []) names → AreApart earlier (a ∷ names)
apart-more earlier a names f g i zero n h k = met earlier a i f (rw (same_Some a n k) h)
apart-more earlier a names f g i (suc j) n h k = g i j n (get-left earlier (a ∷ []) i n h) k

distinct-more : (earlier : List (List ℕ)) (a : List ℕ) (names : List (List ℕ)) → AreApart (earlier ++ a ∷ []) names → AreDistinct names → AreDistinct (a ∷ names)
distinct-more earlier a names g d zero zero n h k = refl
distinct-more earlier a names g d zero (suc j) n h k =
    absurd (g (length earlier) j a (get-seam earlier a []) (rw (same_Some a n h) k))
distinct-more earlier a names g d (suc i) zero n h k =
    absurd (g (length earlier) i a (get-seam earlier a []) (rw (same_Some a n k) h))
distinct-more earlier a names g d (suc i) (suc j) n h k = ap suc (d i j n h k)

apart : {A : Type 0} (name : A → List ℕ) (checks : List (List ℕ) → A → List Check) → ((earlier : List (List ℕ)) (x : A) → Passes (checks earlier x) → is_new (name x) earlier ≡ true) →
    (earlier : List (List ℕ)) (xs : List A) → Passes (each_in_turn name checks earlier xs) → AreApart earlier (map name xs) × AreDistinct (map name xs)
unfolding each_in_turn
apart name checks new earlier [] p = ((λ i j n h k. none-some n k), (λ i j n h k. absurd (none-some n h)))
apart name checks new earlier (x ∷ xs) p =
    let fresh = new earlier x (left (checks earlier x) _ p) in
    let behind = apart name checks new (earlier ++ name x ∷ []) xs (right (checks earlier x) (each_in_turn name checks (earlier ++ name x ∷ []) xs) p) in
    (apart-more earlier (name x) (map name xs) fresh behind.0, distinct-more earlier (name x) (map name xs) behind.0 behind.1)

-- the names of a list whose elements pass, each new behind those before it
pub distinct : {A : Type 0} (name : A → List ℕ) (checks : List (List ℕ) → A → List Check) → ((earlier : List (List ℕ)) (x : A) → Passes (checks earlier x) → is_new (name x) earlier ≡ true) →
    (xs : List A) → Passes (each_in_turn name checks [] xs) → AreDistinct (map name xs)
distinct name checks new xs p = (apart name checks new [] xs p).1
