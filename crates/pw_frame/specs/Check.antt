-- The block check of a data readout (IEC 62056-21, block check character).
use Rattle.std.specs.Prelude.{◌≡◌, ℕ, ◌%◌, ◌<◌, ◌==◌, List, count_by}
use Rattle.std.specs.Int.{bit_at}

-- One byte, in which bit i is the parity of the number of bytes whose bit i is set.
pub record IsBlockCheck (bytes : List ℕ) (check : ℕ) : Type 0 where
  pub byte : check < 256
  pub parity : (i : ℕ) → i < 8 → bit_at check i ≡ count_by (λ b. bit_at b i == 1) bytes % 2
