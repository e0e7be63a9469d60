-- What single tests of a table say: of prices, and of a week.
use Rattle.std.proofs.Common.{◌≡◌, ◌==◌, ◌&&◌, ℕ, zero, suc, ◌<◌, ◌≤◌, ℤ, pos, negsuc, List, [], ◌∷◌, length, All, nat_lt, Bool, true, false, refl, arith, eqb-true}
use Rattle.std.specs.List.{list_all}
use Rattle.std.proofs.lemmas.Bool.{leb-true, ltb-true}
use Rattle.pw_tariff.specs.declared.limits.TheConstants.{MOST_PRICE}
use Rattle.pw_tariff.specs.Office.{BandText, IsDay, IsWeek, band_named}
use Rattle.pw_tariff.specs.Words.{is_price}
use Rattle.pw_tariff.specs.Text.{whole_of, is_day, is_week}

no-truth : false ≡ true → ⊥
no-truth h = cc

pub both : (a b : Bool) → (a && b) ≡ true → (a ≡ true) × (b ≡ true)
both true b h = (refl, h)
both false b h = absurd (no-truth h)

pub price-bound : (z : ℤ) → is_price z ≡ true → whole_of z ≤ MOST_PRICE
price-bound (pos n) h = leb-true n MOST_PRICE h
price-bound (negsuc n) h = absurd (no-truth h)

pub all-of : {A : Type 0} (p : A → Bool) (P : A → Type 0) → ((x : A) → p x ≡ true → P x) → (xs : List A) → list_all p xs ≡ true → All P xs
all-of p P k [] h i d l = absurd (omega arith)
all-of p P k (x ∷ xs) h zero d l = k x (both (p x) (list_all p xs) h).0
all-of p P k (x ∷ xs) h (suc i) d l = all-of p P k xs (both (p x) (list_all p xs) h).1 i d (omega arith)

pub day-of : (bands : List BandText) (day : List ℕ) → is_day bands day ≡ true → IsDay bands day
day-of bands day h =
    let b = both (length day == 24) (list_all (λ c. nat_lt (band_named bands c) (length bands)) day) h in
    (eqb-true (length day) 24 b.0, all-of (λ c. nat_lt (band_named bands c) (length bands)) (λ c. band_named bands c < length bands) (λ c k. ltb-true _ _ k) day b.1)

pub week-of : (bands : List BandText) (week : List (List ℕ)) → is_week bands week ≡ true → IsWeek bands week
week-of bands week h =
    let b = both (length week == 7) (list_all (is_day bands) week) h in
    (eqb-true (length week) 7 b.0, all-of (is_day bands) (IsDay bands) (day-of bands) week b.1)
