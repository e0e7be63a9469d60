-- Amounts of money as text: euro, a point, and two digits of cents.
-- (A format of this project.)
use Rattle.std.specs.Prelude.{ℕ, ◌+◌, ◌/◌, ◌%◌, List, ◌++◌, codes, decimal, ℤ, pos, negsuc}
use Rattle.std.specs.Int.{int_div_euclid}
use Rattle.pw_time.specs.Texts.{two_digits}
use Rattle.pw_model.specs.Payments.{nano_in_cent}

-- ---- whole cents
-- the greatest whole number of cents that isn't above an amount of nano-euro
abbrev pub cents_below : ℤ → ℤ
cents_below nano = int_div_euclid nano (pos nano_in_cent)

-- ---- as text
abbrev pub euro_text : ℕ → List ℕ
euro_text cents = decimal (cents / 100) ++ codes "." ++ two_digits (cents % 100)

-- of cents that may be below 0
abbrev pub signed_euro_text : ℤ → List ℕ
signed_euro_text (pos cents) = euro_text cents
signed_euro_text (negsuc n) = codes "-" ++ euro_text (n + 1)

-- of nano-euro
abbrev pub balance_text : ℤ → List ℕ
balance_text nano = signed_euro_text (cents_below nano)
