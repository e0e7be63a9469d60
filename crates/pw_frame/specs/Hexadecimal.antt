-- Numbers in capital hexadecimal digits, with leading zeros up to their width.
use Rattle.std.specs.Prelude.{ℕ, ◌/◌, ◌%◌, ◌+◌, List, [], ◌∷◌, ◌++◌, nat_lt, if◌then◌else◌}

-- 0 to 9, A to F
abbrev pub digit_character : ℕ → ℕ
digit_character digit = if nat_lt digit 10 then 48 + digit else 55 + digit

abbrev pub two_digits : ℕ → List ℕ
two_digits n = digit_character (n / 16) ∷ digit_character (n % 16) ∷ []

abbrev pub four_digits : ℕ → List ℕ
four_digits n = two_digits (n / 256) ++ two_digits (n % 256)
