-- The digits of a month's text. It serves `src/months.rt`.
-- (Definitions of this project.)
use Rattle.std.specs.Prelude.{ℕ, ◌<◌, ◌≤◌, List, ◌∷◌, ◌++◌}
use Rattle.pw_time.specs.Texts.{two_digits}

-- the ASCII code of a digit
abbrev pub IsDigit : ℕ → Type 0
IsDigit b = (48 ≤ b) × (b < 58)

-- `20YY-MM`, of two numbers below 100
abbrev pub of_century : ℕ → ℕ → List ℕ
of_century a b = 50 ∷ 48 ∷ two_digits a ++ (45 ∷ two_digits b)
