-- The words of an office file: names, clocks, registers, prices, hours.
-- (Definitions of this project. Bytes are ASCII codes: 45 is '-', 48 to 57 the digits, 65 to 90 A to Z, 95 '_', 97 to 122 a to z.)
use Rattle.std.specs.Prelude.{◌==◌, ◌&&◌, ◌||◌, ℕ, zero, suc, ◌+◌, ◌-◌, ◌/◌, ℤ, pos, negsuc, Option, Some, None, List, [], ◌∷◌, length, codes, nat_le, not, find, Bool, false, cond}
use Rattle.std.specs.List.{list_all, list_any}
use Rattle.std.specs.Cmp.Lexicographic.{pointwise}
use Rattle.pw_obis.specs.declared.reference.Register.{Register}
use Rattle.pw_obis.specs.Registers.{registers, register_name}
use Rattle.pw_time.specs.declared.zone.Clock.{Clock}
use Rattle.pw_time.specs.declared.zone.Clock.TheVariants.{Marked, Winter, Local}
use Rattle.pw_time.specs.declared.instant.TheConstants.{FIRST_SECOND, END_SECOND}
use Rattle.pw_time.specs.Written.{utc_text}
use Rattle.pw_tariff.specs.declared.limits.TheConstants.{MOST_PRICE}

abbrev pub same_text : List ℕ → List ℕ → Bool
same_text a b = pointwise ◌==◌ a b

abbrev pub is_between : ℕ → ℕ → ℕ → Bool
is_between low high c = nat_le low c && nat_le c high

abbrev pub is_capital : ℕ → Bool
is_capital c = is_between 65 90 c

-- A to Z, a to z, 0 to 9, '-' or '_'
abbrev pub is_name_character : ℕ → Bool
is_name_character c = is_capital c || is_between 97 122 c || is_between 48 57 c || (c == 45) || (c == 95)

-- one character or more, at most so many
abbrev pub is_name : ℕ → List ℕ → Bool
is_name most text = (nat_le 1 (length text) && nat_le (length text) most) && list_all is_name_character text

-- one letter from A to Z
abbrev pub is_band_name : List ℕ → Bool
is_band_name (c ∷ []) = is_capital c
is_band_name _ = false

-- none of the earlier names
abbrev pub is_new : List ℕ → List (List ℕ) → Bool
is_new name earlier = not (list_any (λ e. same_text e name) earlier)

abbrev pub clock_named : List ℕ → Option Clock
clock_named text = cond (same_text text (codes "marked")) (Some Marked)
    (cond (same_text text (codes "winter")) (Some Winter)
    (cond (same_text text (codes "local")) (Some Local) None))

abbrev pub register_named : List ℕ → Option Register
register_named text = find (λ r. same_text text (register_name r)) registers

-- nano-euro per watt-hour
abbrev pub is_price : ℤ → Bool
is_price (pos n) = nat_le n MOST_PRICE
is_price (negsuc n) = false

-- so many whole hours, from a second on
unfoldable pub hours_from : ℕ → ℕ → List ℕ
hours_from t zero = []
hours_from t (suc n) = t ∷ hours_from (t + 3600) n

-- the whole hour of UTC that a text tells as `YYYY-MM-DDThh:mm:ssZ`: the one of all instants that is written so
unfoldable pub whole_hour : List ℕ → Option ℕ
whole_hour text = find (λ t. same_text (utc_text t) text) (hours_from FIRST_SECOND ((END_SECOND - FIRST_SECOND) / 3600))
