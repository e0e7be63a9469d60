-- The table of the CRCs of single bytes, computed.
use Rattle.std.proofs.Common.{◌≡◌, ℕ, ◌<◌, [], ◌∷◌, get_or, refl, map, ap, ◌∙◌, arith}
use Rattle.std.proofs.lemmas.List.FromFn.{get_or-map-range_with_len}
use Rattle.std.proofs.lemmas.Option.{slice_get-get_or}
use Rattle.std.specs.List.{range_with_len, slice_get}
use Rattle.std.specs.Prelude.{Some}
use Rattle.pw_frame.specs.declared.words.TheConstants.{CRC_WORDS}
use Rattle.pw_frame.specs.Crc.{step, steps, low_bits, bit_sum, crc_of}

words_are : CRC_WORDS ≡ map (λ byte. crc_of (byte ∷ [])) (range_with_len 0 256)
unfolding step steps low_bits bit_sum
words_are = refl

-- word i, read as the code reads it
pub word_is : (i : ℕ) → i < 256 → get_or CRC_WORDS i 0 ≡ crc_of (i ∷ [])
word_is i l =
    ap (λ words. get_or words i 0) words_are
    ∙ get_or-map-range_with_len (λ byte. crc_of (byte ∷ [])) 0 256 i i 0 l (omega arith)

pub word_at : (i : ℕ) → i < 256 → slice_get CRC_WORDS i ≡ Some (crc_of (i ∷ []))
word_at i l = slice_get-get_or CRC_WORDS i 0 l ∙ ap Some (word_is i l)
