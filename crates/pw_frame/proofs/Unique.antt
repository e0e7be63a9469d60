-- One place has one header, one kind, one block, one stated and one right check.
use Rattle.std.proofs.Common.{◌≡◌, ℕ, ◌+◌, ◌<◌, ◌≤◌, ⊎_elim, List, refl, sym, ap, ◌∙◌, subst, arith}
use Rattle.std.specs.Prelude.{slice_index, slice_range}
use Rattle.std.proofs.lemmas.Bool.{cases_lt}
use Rattle.pw_frame.specs.declared.frame.Kind.{Kind}
use Rattle.pw_frame.specs.declared.frame.Kind.TheVariants.{Telegram, Readout}
use Rattle.pw_frame.specs.Frame.{FrameText, HeaderEnd, Head, Plain, BlockEnd, Framed, IsHexadecimalDigit, StatedCrc, FrameEnding, Checks, Whole, block_start, ending_size}
use Rattle.pw_frame.proofs.BlockChecks.{one_block_check}

-- two numbers are equal where neither is the smaller
pub same_place : (a b : ℕ) → (a < b → ⊥) → (b < a → ⊥) → a ≡ b
same_place a b f g = ⊎_elim (λ (l : a < b). absurd (f l)) (λ (l : b ≤ a). ⊎_elim (λ (m : b < a). absurd (g m)) (λ (m : a ≤ b). omega arith) (cases_lt b a)) (cases_lt a b)

header_before : (rest : List ℕ) (a b : ℕ) → HeaderEnd rest a → HeaderEnd rest b → a < b → ⊥
header_before rest a b x y l = x.here (y.before a x.after l)

pub one_header : (rest : List ℕ) (a b : ℕ) → HeaderEnd rest a → HeaderEnd rest b → a ≡ b
one_header rest a b x y = same_place a b (header_before rest a b x y) (header_before rest b a y x)

-- a head has one end ..
pub one_head : (rest : List ℕ) (k l : Kind) (a b : ℕ) → Head rest k a → Head rest l b → a ≡ b
one_head rest k l a b x y = one_header rest a b x.header y.header

-- .. and one kind, since CR is no STX
line_or_stx : (rest : List ℕ) (a b : ℕ) → Head rest Telegram a → Head rest Readout b → ⊥
line_or_stx rest a b x y =
    let e : a ≡ b = one_header rest a b x.header y.header in
    let stx : slice_index rest (a + 2) ≡ 2 = subst (λ (i : ℕ). slice_index rest (i + 2) ≡ 2) (sym e) y.opens in
    let cr : slice_index rest (a + 2) ≡ 13 = x.opens.0 in
    omega (arith, stx, cr)

pub one_kind : (rest : List ℕ) (k l : Kind) (a b : ℕ) → Head rest k a → Head rest l b → k ≡ l
one_kind rest Telegram Telegram a b x y = refl
one_kind rest Telegram Readout a b x y = absurd (line_or_stx rest a b x y)
one_kind rest Readout Telegram a b x y = absurd (line_or_stx rest b a y x)
one_kind rest Readout Readout a b x y = refl

block_before : (rest : List ℕ) (start a b : ℕ) → BlockEnd rest start a → BlockEnd rest start b → a < b → ⊥
block_before rest start a b x y l = y.before.endless a x.from l x.here

pub one_block : (rest : List ℕ) (start a b : ℕ) → BlockEnd rest start a → BlockEnd rest start b → a ≡ b
one_block rest start a b x y = same_place a b (block_before rest start a b x y) (block_before rest start b a y x)

-- where two heads stand, the blocks have one beginning
pub one_start : (rest : List ℕ) (k l : Kind) (a b : ℕ) → Head rest k a → Head rest l b → block_start k a ≡ block_start l b
one_start rest k l a b x y =
    ap (λ (j : Kind). block_start j a) (one_kind rest k l a b x y) ∙ ap (block_start l) (one_head rest k l a b x y)

pub block_at : (rest : List ℕ) (k l : Kind) (a b i : ℕ) → Head rest k a → Head rest l b → BlockEnd rest (block_start k a) i → BlockEnd rest (block_start l b) i
block_at rest k l a b i x y = subst (λ (s : ℕ). BlockEnd rest s i) (one_start rest k l a b x y)

pub plain_at : (rest : List ℕ) (k l : Kind) (a b i : ℕ) → Head rest k a → Head rest l b → Plain rest (block_start k a) i → Plain rest (block_start l b) i
plain_at rest k l a b i x y = subst (λ (s : ℕ). Plain rest s i) (one_start rest k l a b x y)

-- two heads with their blocks have one end
pub one_end : (rest : List ℕ) (k l : Kind) (a b i j : ℕ) → Framed rest k a i → Framed rest l b j → i ≡ j
one_end rest k l a b i j x y = one_block rest (block_start l b) i j (block_at rest k l a b i x.head y.head x.block) y.block

-- ---- checks

pub one_digit : (byte a b : ℕ) → IsHexadecimalDigit byte a → IsHexadecimalDigit byte b → a ≡ b
one_digit byte a b x y = omega (arith, x, y)

one_crc : (rest : List ℕ) (end s t : ℕ) → StatedCrc rest end s → StatedCrc rest end t → s ≡ t
one_crc rest end s t x y =
    let a : x.a ≡ y.a = one_digit _ x.a y.a x.first y.first in
    let b : x.b ≡ y.b = one_digit _ x.b y.b x.second y.second in
    let c : x.c ≡ y.c = one_digit _ x.c y.c x.third y.third in
    let d : x.d ≡ y.d = one_digit _ x.d y.d x.fourth y.fourth in
    omega (arith, a, b, c, d, x.value, y.value)

pub one_stated : (rest : List ℕ) (kind : Kind) (end s t : ℕ) → FrameEnding kind rest end s → FrameEnding kind rest end t → s ≡ t
one_stated rest Telegram end s t x y = one_crc rest end s t x y
one_stated rest Readout end s t x y = x.value ∙ sym y.value

pub one_right : (rest : List ℕ) (kind : Kind) (a e s t : ℕ) → Checks kind rest a e s → Checks kind rest a e t → s ≡ t
one_right rest Telegram a e s t x y = x ∙ sym y
one_right rest Readout a e s t x y = one_block_check (slice_range rest (a + 3) (e + 4)) s t x y

-- what holds of one kind, header and block holds of all that stand there
pub ending_at : (rest : List ℕ) (k l : Kind) (a b i j s : ℕ) → Framed rest k a i → Framed rest l b j → FrameEnding k rest i s → FrameEnding l rest j s
ending_at rest k l a b i j s x y h =
    subst (λ (n : ℕ). FrameEnding l rest n s) (one_end rest k l a b i j x y)
    (subst (λ (o : Kind). FrameEnding o rest i s) (one_kind rest k l a b x.head y.head) h)

pub right_at : (rest : List ℕ) (k l : Kind) (a b i j s : ℕ) → Framed rest k a i → Framed rest l b j → Checks k rest a i s → Checks l rest b j s
right_at rest k l a b i j s x y h =
    subst (λ (n : ℕ). Checks l rest b n s) (one_end rest k l a b i j x y)
    (subst (λ (m : ℕ). Checks l rest m i s) (one_head rest k l a b x.head y.head)
    (subst (λ (o : Kind). Checks o rest a i s) (one_kind rest k l a b x.head y.head) h))

-- ---- whole frames

pub one_size : (rest : List ℕ) (f g : FrameText) (s t : ℕ) → Whole rest f s → Whole rest g t → s ≡ t
one_size rest f g s t x y =
    let e : x.block_end ≡ y.block_end = one_end rest _ _ _ _ _ _ x.framed y.framed in
    let k : ending_size f.kind ≡ ending_size g.kind = ap ending_size (one_kind rest _ _ _ _ x.framed.head y.framed.head) in
    omega (arith, e, k, x.whole, y.whole)

abbrev text : List ℕ → List ℕ → Kind → FrameText
text header block kind = record { kind = kind; header = header; block = block }

same_text : (f g : FrameText) → f.kind ≡ g.kind → f.header ≡ g.header → f.block ≡ g.block → f ≡ g
same_text f g a b c =
    ap (λ (k : Kind). text f.header f.block k) a ∙ ap (λ (h : List ℕ). text h f.block g.kind) b ∙ ap (λ (l : List ℕ). text g.header l g.kind) c

pub one_text : (rest : List ℕ) (f g : FrameText) (s t : ℕ) → Whole rest f s → Whole rest g t → f ≡ g
one_text rest f g s t x y =
    let h : x.header_end ≡ y.header_end = one_head rest _ _ _ _ x.framed.head y.framed.head in
    let b : block_start f.kind x.header_end ≡ block_start g.kind y.header_end = one_start rest _ _ _ _ x.framed.head y.framed.head in
    let e : x.block_end ≡ y.block_end = one_end rest _ _ _ _ _ _ x.framed y.framed in
    same_text f g
    (one_kind rest _ _ _ _ x.framed.head y.framed.head)
    (x.header_is ∙ ap (slice_range rest 1) h ∙ sym y.header_is)
    (x.block_is ∙ ap (λ (k : ℕ). slice_range rest k x.block_end) b ∙ ap (slice_range rest (block_start g.kind y.header_end)) e ∙ sym y.block_is)
