-- The references of top-ups. (A format of this project: a payment's own reference, as short text.)
use Rattle.std.specs.Prelude.{ℕ, ◌-◌, ◌≤◌, Bool, ◌||◌, ◌&&◌, ◌==◌, nat_le, List, ◌++◌, length, replicate}
use Rattle.std.specs.List.{AllPass}

-- A to Z, a to z, 0 to 9, `-` or `.`
abbrev pub is_reference_byte : ℕ → Bool
is_reference_byte c =
    (nat_le 65 c && nat_le c 90) || (nat_le 97 c && nat_le c 122) || (nat_le 48 c && nat_le c 57) || (c == 45) || (c == 46)

-- 1 to 32 of these characters
abbrev pub IsReference : List ℕ → Type 0
IsReference text = (1 ≤ length text) × (length text ≤ 32) × AllPass is_reference_byte text

-- 32 bytes: the text, and 0 behind it
abbrev pub padded : List ℕ → List ℕ
padded text = text ++ replicate (32 - length text) 0
