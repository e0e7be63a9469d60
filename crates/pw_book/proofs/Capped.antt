-- A balance of totals that are no larger than they may be fits.
use Rattle.std.proofs.Common.{ℕ, ◌^◌, ◌<◌, pos, ◌+ℤ◌, ◌-ℤ◌, FitsSigned, arith}
use Rattle.std.specs.Int.{w128}
use Rattle.std.proofs.lemmas.Int.{ints}

-- a balance of such sums fits
pub difference-fits : (paid imported exported : ℕ) → paid < 2 ^ 120 → imported < 2 ^ 120 → exported < 2 ^ 120 → FitsSigned w128 ((pos paid -ℤ pos imported) +ℤ pos exported)
difference-fits paid imported exported p i e = omega (arith, ints, p, i, e)
