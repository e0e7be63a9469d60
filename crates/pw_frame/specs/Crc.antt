-- The CRC16 of a telegram (DSMR P1 Companion Standard 5.0.2, format of the P1 telegram): x^16 + x^15 + x^2 + 1, start value 0, the
-- least significant bit first, no exclusive or at the end. Here it goes over the message's single bits.
use Rattle.std.specs.Prelude.{ℕ, zero, suc, ◌/◌, ◌%◌, ◌==◌, List, [], ◌∷◌, length, bit_xor, if◌then◌else◌}
use Rattle.std.specs.List.{flat_map}

-- One step of a word: shifted right by one, and the exclusive or with the polynomial's word where a bit fell out.
unfoldable pub step : ℕ → ℕ
step word = if word % 2 == 0 then word / 2 else bit_xor (word / 2) 0xA001

unfoldable pub steps : ℕ → ℕ → ℕ
steps zero word = word
steps (suc n) word = steps n (step word)

-- the n lowest bits of a number, the least significant first
unfoldable pub low_bits : ℕ → ℕ → List ℕ
low_bits zero number = []
low_bits (suc n) number = number % 2 ∷ low_bits n (number / 2)

-- the bits of a message, in the order in which they are sent
abbrev pub message_bits : List ℕ → List ℕ
message_bits bytes = flat_map (low_bits 8) bytes

-- The exclusive or, over the set bits, of the polynomial's word stepped once for each bit behind the bit.
unfoldable pub bit_sum : List ℕ → ℕ
bit_sum [] = 0
bit_sum (bit ∷ bits) = if bit == 0 then bit_sum bits else bit_xor (steps (length bits) 0xA001) (bit_sum bits)

-- the CRC of a message
abbrev pub crc_of : List ℕ → ℕ
crc_of bytes = bit_sum (message_bits bytes)

-- the same from a register: the exclusive or with the register stepped once for each bit of the message
abbrev pub crc_from : ℕ → List ℕ → ℕ
crc_from register bytes = bit_xor (steps (length (message_bits bytes)) register) (bit_sum (message_bits bytes))
