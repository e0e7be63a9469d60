-- The parity of a count, one byte on; and that bytes have one block check.
use Rattle.std.proofs.Common.{zero, suc, ◌≡◌, ℕ, ◌+◌, ◌%◌, ◌<◌, ◌==◌, Bool, List, length, take, get_or, refl, sym, ap, ◌∙◌, arith}
use Rattle.std.specs.Prelude.{count_by, bit_xor}
use Rattle.std.specs.Int.{bit_at}
use Rattle.std.proofs.lemmas.Nat.Bits.{bit_at_xor, bit_at-lt, same_from_bits_below}
use Rattle.std.proofs.lemmas.List.Sums.{count_by_more_no, count_by_more_yes}
use Rattle.std.proofs.lemmas.Nat.{xor_of_8}
use Rattle.pw_frame.specs.Check.{IsBlockCheck}

-- the count goes up where the bit is set
parity_step : (p : ℕ → Bool) (xs : List ℕ) (k n : ℕ) → k < length xs → n < 2 → p (get_or xs k 0) ≡ (n == 1)
    → (count_by p (take k xs) % 2 + n) % 2 ≡ count_by p (take (k + 1) xs) % 2
parity_step p xs k zero l s e = omega (arith, count_by_more_no p xs k 0 l e)
parity_step p xs k (suc zero) l s e = omega (arith, count_by_more_yes p xs k 0 l e)
parity_step p xs k (suc (suc n)) l s e = absurd (omega arith)

pub parity_more : (xs : List ℕ) (k check : ℕ) → k < length xs → get_or xs k 0 < 256
    → IsBlockCheck (take k xs) check → IsBlockCheck (take (k + 1) xs) (bit_xor check (get_or xs k 0))
parity_more xs k check l s h = record {
  byte = xor_of_8 check (get_or xs k 0) h.byte s;
  parity = λ i m.
      bit_at_xor check (get_or xs k 0) i
      ∙ ap (λ p. (p + bit_at (get_or xs k 0) i) % 2) (h.parity i m)
      ∙ parity_step (λ b. bit_at b i == 1) xs k (bit_at (get_or xs k 0) i) l (bit_at-lt (get_or xs k 0) i) refl;
}

pub one_block_check : (bytes : List ℕ) (a b : ℕ) → IsBlockCheck bytes a → IsBlockCheck bytes b → a ≡ b
one_block_check bytes a b x y = same_from_bits_below 8 a b x.byte y.byte (λ i m. x.parity i m ∙ sym (y.parity i m))
