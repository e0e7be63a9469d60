-- Digits by themselves. It serves `src/digits.rt` and `src/texts.rt`.
use Rattle.std.specs.Prelude.{ℕ, ◌<◌}
use Rattle.std.specs.Int.{IsInRange}

-- three numbers of two digits each
abbrev pub AreTwoDigits : ℕ → ℕ → ℕ → Type 0
AreTwoDigits a b c = (a < 100) × (b < 100) × (c < 100)

-- a byte that is a decimal digit
abbrev pub IsDecimalDigit : ℕ → Type 0
IsDecimalDigit byte = IsInRange 48 57 byte
