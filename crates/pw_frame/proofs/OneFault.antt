-- Of all faults one at most is the first at a place.
use Rattle.std.proofs.Common.{suc, ◌≡◌, ℕ, ◌+◌, ◌<◌, ◌≤◌, ◌⊎◌, inl, inr, List, sym, ap, ◌∙◌, subst, arith}
use Rattle.std.specs.Prelude.{slice_index}
use Rattle.pw_frame.specs.declared.frame.Kind.{Kind}
use Rattle.pw_frame.specs.declared.frame.Kind.TheVariants.{Telegram, Readout}
use Rattle.pw_frame.specs.declared.frame.FrameFault.{FrameFault}
use Rattle.pw_frame.specs.declared.frame.FrameFault.TheVariants.{Header, NoEnd, Crc, Trailer, BlockCheck, HighBit}
use Rattle.pw_frame.specs.Frame.{Head, Plain, Framed, block_start}
use Rattle.pw_frame.specs.FirstFault.{BadHeader, HighHeader, HighLine, HighBlock, Endless, BadEnding, BadCheck, IsFault}
use Rattle.pw_frame.proofs.Unique.{same_place, one_header, one_kind, one_start, one_stated, one_right, plain_at, ending_at, right_at}
use Rattle.pw_frame.proofs.NoFault.{bad_head, high_header_head, high_line_head, high_block_end, endless_end}

abbrev NoHead : List ℕ → Type 0
NoHead rest = (slice_index rest 0 ≡ 47 → ⊥) ⊎ BadHeader rest

no_head : (rest : List ℕ) (k : Kind) (e : ℕ) → NoHead rest → Head rest k e → ⊥
no_head rest k e (inl n) h = n h.header.slash
no_head rest k e (inr x) h = bad_head rest k e x h

ending_check : (rest : List ℕ) (k : Kind) (s t : ℕ) → BadEnding rest → BadCheck k rest s t → ⊥
ending_check rest k s t x y = x.bad s (ending_at rest k x.kind _ _ _ _ s y.framed x.framed y.ending)

-- a telegram's check and a readout's are not both wrong
one_check_kind : (rest : List ℕ) (s t u v : ℕ) → BadCheck Telegram rest s t → BadCheck Readout rest u v → ⊥
one_check_kind rest s t u v x y =
    let e : Telegram ≡ Readout = one_kind rest Telegram Readout _ _ x.framed.head y.framed.head in
    cc

-- ---- high bytes

abbrev IsHigh : List ℕ → ℕ → Type 0
IsHigh rest i = HighHeader rest i ⊎ (HighLine rest i ⊎ HighBlock rest i)

high_has_head : (rest : List ℕ) (i : ℕ) → HighHeader rest i → NoHead rest → ⊥
high_has_head rest i x (inl n) = n x.header.slash
high_has_head rest i x (inr y) =
    let low : slice_index rest i < 128 = subst (λ (k : ℕ). slice_index rest k < 128) (one_header rest y.end i y.header x.header) y.low in
    omega (arith, low, x.high)

line_has_head : (rest : List ℕ) (i : ℕ) → HighLine rest i → NoHead rest → ⊥
line_has_head rest i x (inl n) = n x.header.slash
line_has_head rest i x (inr y) =
    let e : y.end ≡ x.end = one_header rest y.end x.end y.header x.header in
    let next : 5 ≤ x.end → slice_index rest x.end ≡ 13 → slice_index rest (x.end + 1) < 128 =
    subst (λ (k : ℕ). 5 ≤ k → slice_index rest k ≡ 13 → slice_index rest (k + 1) < 128) e y.next in
    let high : 128 ≤ slice_index rest (x.end + 1) = subst (λ (k : ℕ). 128 ≤ slice_index rest k) x.place x.high in
    let low : slice_index rest (x.end + 1) < 128 = next x.long x.cr in
    omega (arith, low, high)

high_no_head : (rest : List ℕ) (i : ℕ) → IsHigh rest i → NoHead rest → ⊥
high_no_head rest i (inl x) n = high_has_head rest i x n
high_no_head rest i (inr (inl x)) n = line_has_head rest i x n
high_no_head rest i (inr (inr x)) n = no_head rest x.kind x.end n x.head

high_end : (rest : List ℕ) (i : ℕ) (k : Kind) (a e : ℕ) → IsHigh rest i → Framed rest k a e → ⊥
high_end rest i k a e (inl x) y = high_header_head rest i k a x y.head
high_end rest i k a e (inr (inl x)) y = high_line_head rest i k a x y.head
high_end rest i k a e (inr (inr x)) y = high_block_end rest i k a e x y

endless_high : (rest : List ℕ) (i : ℕ) → Endless rest → HighBlock rest i → ⊥
endless_high rest i x y =
    let p : Plain rest (block_start y.kind y.end) (suc i) = plain_at rest x.kind y.kind x.end y.end (suc i) x.head y.head (x.plain (suc i)) in
    let low : slice_index rest i < 128 = p.seven i y.from (omega arith) in
    omega (arith, low, y.high)

high_endless : (rest : List ℕ) (i : ℕ) → IsHigh rest i → Endless rest → ⊥
high_endless rest i (inl x) y = high_header_head rest i y.kind y.end x y.head
high_endless rest i (inr (inl x)) y = high_line_head rest i y.kind y.end x y.head
high_endless rest i (inr (inr x)) y = endless_high rest i y x

header_line : (rest : List ℕ) (i j : ℕ) → HighHeader rest i → HighLine rest j → ⊥
header_line rest i j x y =
    let cr : slice_index rest i ≡ 13 = subst (λ (k : ℕ). slice_index rest k ≡ 13) (one_header rest y.end i y.header x.header) y.cr in
    omega (arith, cr, x.high)

block_before_high : (rest : List ℕ) (i j : ℕ) → HighBlock rest i → HighBlock rest j → i < j → ⊥
block_before_high rest i j x y l =
    let start : block_start x.kind x.end ≡ block_start y.kind y.end = one_start rest _ _ _ _ x.head y.head in
    let from : block_start y.kind y.end ≤ i = omega (arith, start, x.from) in
    let low : slice_index rest i < 128 = y.before.seven i from l in
    omega (arith, low, x.high)

one_high : (rest : List ℕ) (i j : ℕ) → IsHigh rest i → IsHigh rest j → i ≡ j
one_high rest i j (inl x) (inl y) = one_header rest i j x.header y.header
one_high rest i j (inl x) (inr (inl y)) = absurd (header_line rest i j x y)
one_high rest i j (inl x) (inr (inr y)) = absurd (high_header_head rest i y.kind y.end x y.head)
one_high rest i j (inr (inl x)) (inl y) = absurd (header_line rest j i y x)
one_high rest i j (inr (inl x)) (inr (inl y)) =
    let e : x.end ≡ y.end = one_header rest x.end y.end x.header y.header in
    omega (arith, e, x.place, y.place)
one_high rest i j (inr (inl x)) (inr (inr y)) = absurd (high_line_head rest i y.kind y.end x y.head)
one_high rest i j (inr (inr x)) (inl y) = absurd (high_header_head rest j x.kind x.end y x.head)
one_high rest i j (inr (inr x)) (inr (inl y)) = absurd (high_line_head rest j x.kind x.end y x.head)
one_high rest i j (inr (inr x)) (inr (inr y)) = same_place i j (block_before_high rest i j x y) (block_before_high rest j i y x)

-- ---- one fault

one_check : (k : Kind) (rest : List ℕ) (a b s t : ℕ) → BadCheck k rest a b → BadCheck k rest s t → (a ≡ s) × (b ≡ t)
one_check k rest a b s t x y = (
  one_stated rest k y.block_end a s (ending_at rest k k _ _ _ _ a x.framed y.framed x.ending) y.ending,
  one_right rest k y.header_end y.block_end b t (right_at rest k k _ _ _ _ b x.framed y.framed x.right) y.right,
)

crc_same : (p q a b s t : ℕ) → p ≡ q → a ≡ s → b ≡ t → Crc p a b ≡ Crc q s t
crc_same p q a b s t e f g = cc

check_same : (p q a b s t : ℕ) → p ≡ q → a ≡ s → b ≡ t → BlockCheck p a b ≡ BlockCheck q s t
check_same p q a b s t e f g = cc

pub one_fault : (rest : List ℕ) (place : ℕ) (f g : FrameFault) → IsFault rest place f → IsFault rest place g → f ≡ g
one_fault rest place (Header a) (Header b) x y = ap Header (x.0 ∙ sym y.0)
one_fault rest place (Header a) (NoEnd b) x y = absurd (no_head rest _ _ x.1 y.1.head)
one_fault rest place (Header a) (Crc b s t) x y = absurd (no_head rest _ _ x.1 y.1.framed.head)
one_fault rest place (Header a) (Trailer b) x y = absurd (no_head rest _ _ x.1 y.1.framed.head)
one_fault rest place (Header a) (BlockCheck b s t) x y = absurd (no_head rest _ _ x.1 y.1.framed.head)
one_fault rest place (Header a) (HighBit b) x y = absurd (high_no_head rest y.0 y.2 x.1)
one_fault rest place (NoEnd a) (Header b) x y = absurd (no_head rest _ _ y.1 x.1.head)
one_fault rest place (NoEnd a) (NoEnd b) x y = ap NoEnd (x.0 ∙ sym y.0)
one_fault rest place (NoEnd a) (Crc b s t) x y = absurd (endless_end rest _ _ _ x.1 y.1.framed)
one_fault rest place (NoEnd a) (Trailer b) x y = absurd (endless_end rest _ _ _ x.1 y.1.framed)
one_fault rest place (NoEnd a) (BlockCheck b s t) x y = absurd (endless_end rest _ _ _ x.1 y.1.framed)
one_fault rest place (NoEnd a) (HighBit b) x y = absurd (high_endless rest y.0 y.2 x.1)
one_fault rest place (Crc a c d) (Header b) x y = absurd (no_head rest _ _ y.1 x.1.framed.head)
one_fault rest place (Crc a c d) (NoEnd b) x y = absurd (endless_end rest _ _ _ y.1 x.1.framed)
one_fault rest place (Crc a c d) (Crc b s t) x y =
    let e : (c ≡ s) × (d ≡ t) = one_check Telegram rest c d s t x.1 y.1 in
    crc_same a b c d s t (x.0 ∙ sym y.0) e.0 e.1
one_fault rest place (Crc a c d) (Trailer b) x y = absurd (ending_check rest _ c d y.1 x.1)
one_fault rest place (Crc a c d) (BlockCheck b s t) x y = absurd (one_check_kind rest c d s t x.1 y.1)
one_fault rest place (Crc a c d) (HighBit b) x y = absurd (high_end rest y.0 _ _ _ y.2 x.1.framed)
one_fault rest place (Trailer a) (Header b) x y = absurd (no_head rest _ _ y.1 x.1.framed.head)
one_fault rest place (Trailer a) (NoEnd b) x y = absurd (endless_end rest _ _ _ y.1 x.1.framed)
one_fault rest place (Trailer a) (Crc b s t) x y = absurd (ending_check rest _ s t x.1 y.1)
one_fault rest place (Trailer a) (Trailer b) x y = ap Trailer (x.0 ∙ sym y.0)
one_fault rest place (Trailer a) (BlockCheck b s t) x y = absurd (ending_check rest _ s t x.1 y.1)
one_fault rest place (Trailer a) (HighBit b) x y = absurd (high_end rest y.0 _ _ _ y.2 x.1.framed)
one_fault rest place (BlockCheck a c d) (Header b) x y = absurd (no_head rest _ _ y.1 x.1.framed.head)
one_fault rest place (BlockCheck a c d) (NoEnd b) x y = absurd (endless_end rest _ _ _ y.1 x.1.framed)
one_fault rest place (BlockCheck a c d) (Crc b s t) x y = absurd (one_check_kind rest s t c d y.1 x.1)
one_fault rest place (BlockCheck a c d) (Trailer b) x y = absurd (ending_check rest _ c d y.1 x.1)
one_fault rest place (BlockCheck a c d) (BlockCheck b s t) x y =
    let e : (c ≡ s) × (d ≡ t) = one_check Readout rest c d s t x.1 y.1 in
    check_same a b c d s t (x.0 ∙ sym y.0) e.0 e.1
one_fault rest place (BlockCheck a c d) (HighBit b) x y = absurd (high_end rest y.0 _ _ _ y.2 x.1.framed)
one_fault rest place (HighBit a) (Header b) x y = absurd (high_no_head rest x.0 x.2 y.1)
one_fault rest place (HighBit a) (NoEnd b) x y = absurd (high_endless rest x.0 x.2 y.1)
one_fault rest place (HighBit a) (Crc b s t) x y = absurd (high_end rest x.0 _ _ _ x.2 y.1.framed)
one_fault rest place (HighBit a) (Trailer b) x y = absurd (high_end rest x.0 _ _ _ x.2 y.1.framed)
one_fault rest place (HighBit a) (BlockCheck b s t) x y = absurd (high_end rest x.0 _ _ _ x.2 y.1.framed)
one_fault rest place (HighBit a) (HighBit b) x y = ap HighBit (x.1 ∙ ap (λ (i : ℕ). place + i) (one_high rest x.0 y.0 x.2 y.2) ∙ sym y.1)
