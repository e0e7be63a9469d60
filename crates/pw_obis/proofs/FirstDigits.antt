-- The digits that a text begins with.
use Rattle.std.proofs.Common.{zero, suc, ◌≡◌, ℕ, ◌+◌, ◌<◌, ◌≤◌, List, [], ◌∷◌, ◌++◌, length, take, refl, arith, get_or, add-one}
use Rattle.std.specs.Char.{digit_value}
use Rattle.std.specs.Str.Parse.{digits_value, AllDigits}
use Rattle.std.proofs.lemmas.List.{length-take}
use Rattle.pw_obis.specs.inner.Groups.{StartsWithDigit}

digits_suc : (xs : List ℕ) (i : ℕ) → i < length xs → AllDigits 10 (take i xs) → digit_value (get_or xs i 0) < 10 → AllDigits 10 (take (suc i) xs)
digits_suc [] i l d h = absurd (omega (arith, l))
digits_suc (c ∷ cs) zero l d h = (h, tt)
digits_suc (c ∷ cs) (suc i) l d h = (d.0, digits_suc cs i (omega (arith, l)) d.1 h)

pub digits_more : (xs : List ℕ) (i : ℕ) → i < length xs → AllDigits 10 (take i xs) → digit_value (get_or xs i 0) < 10 → AllDigits 10 (take (i + 1) xs)
digits_more xs i l d h = rw add-one (digits_suc xs i l d h)

-- digits that end where no digit follows are the text's first digits
pub one_run : (ds es r s : List ℕ) → AllDigits 10 ds → AllDigits 10 es → (StartsWithDigit r → ⊥) → (StartsWithDigit s → ⊥) → ds ++ r ≡ es ++ s → (ds ≡ es) × (r ≡ s)
one_run [] [] r s f g m n e = (refl, e)
one_run [] (c ∷ es) r s f g m n e = absurd (m (rw e g.0))
one_run (c ∷ ds) [] r s f g m n e = absurd (n (rw (← e) f.0))
one_run (c ∷ ds) (d ∷ es) r s f g m n e =
    let tails : ds ++ r ≡ es ++ s = cc in
    let w : (ds ≡ es) × (r ≡ s) = one_run ds es r s f.1 g.1 m n tails in
    let heads : c ≡ d = cc in
    (cc (heads, w.0), w.1)

small : (ds : List ℕ) → length ds ≤ 3 → AllDigits 10 ds → digits_value 10 ds < 1000
small [] l d = omega arith
small (a ∷ []) l d = omega (arith, d.0)
small (a ∷ b ∷ []) l d = omega (arith, d.0, d.1.0)
small (a ∷ b ∷ c ∷ []) l d = omega (arith, d.0, d.1.0, d.1.1.0)
small (a ∷ b ∷ c ∷ e ∷ ds) l d = absurd (omega (arith, l))

-- up to three digits stay below 1,000
pub below_thousand : (xs : List ℕ) (i : ℕ) → i ≤ 3 → AllDigits 10 (take i xs) → digits_value 10 (take i xs) < 1000
below_thousand xs i l d = small (take i xs) (omega (arith, l, length-take i xs)) d
