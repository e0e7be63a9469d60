-- A number read digit by digit, and a length said by headers.
use Rattle.std.proofs.Common.{◌≡◌, ◌<◌, ◌≤◌, ℕ, ◌+◌, ◌-◌, ◌*◌, ◌^◌, List, [], ◌∷◌, ◌++◌, true, None, refl, ap, ◌∙◌, arith}
use Rattle.std.specs.List.{list_all}
use Rattle.std.specs.Char.{is_ascii_digit, digit_value}
use Rattle.std.specs.Str.Parse.{digits_value}
use Rattle.std.proofs.lemmas.List.Folds.{list_all-append}
use Rattle.std.proofs.lemmas.Int.Digits.{digits_value_push}
use Rattle.std.proofs.lemmas.Nat.{pow-add}
use Rattle.pw_http.specs.Requests.{length_said, number_of}

pub digit_of : (b : ℕ) → is_ascii_digit b ≡ true → (48 ≤ b) × (b < 58) × (digit_value b ≡ b - 48)
digit_of b h = (grind (arith, h), grind (arith, h), grind (arith, h))

pub more_digits : (ds : List ℕ) (b : ℕ) → list_all is_ascii_digit ds ≡ true → is_ascii_digit b ≡ true → list_all is_ascii_digit (ds ++ b ∷ []) ≡ true
more_digits ds b x y = rw (list_all-append is_ascii_digit ds (b ∷ []), x, y) refl

pub more_value : (ds : List ℕ) (b : ℕ) → is_ascii_digit b ≡ true → digits_value 10 (ds ++ b ∷ []) ≡ digits_value 10 ds * 10 + (b - 48)
more_value ds b y = digits_value_push 10 ds b ∙ ap (λ (d : ℕ). digits_value 10 ds * 10 + d) (digit_of b y).2

pub more_small : (v d i : ℕ) → v < 10 ^ i → d < 10 → v * 10 + d < 10 ^ (i + 1)
more_small v d i x y = rw (pow-add 10 i 1) (omega (arith, x, y))

pub said_more : (fs : List (List ℕ × List ℕ)) (f : List ℕ × List ℕ) → length_said (fs ++ f ∷ []) ≡ (elim fs [ [] ↦ number_of f.1 | g ∷ gs ↦ None ])
said_more [] f = refl
said_more (g ∷ []) f = refl
said_more (g ∷ h ∷ hs) f = refl
