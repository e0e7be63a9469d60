-- No fault stands where a whole frame does.
use Rattle.std.proofs.Common.{suc, ◌≡◌, ℕ, ◌+◌, ◌<◌, ⊎_elim, List, sym, ap, ◌∙◌, subst, arith}
use Rattle.std.specs.Prelude.{slice_index}
use Rattle.pw_frame.specs.declared.frame.Kind.{Kind}
use Rattle.pw_frame.specs.declared.frame.FrameFault.{FrameFault}
use Rattle.pw_frame.specs.declared.frame.FrameFault.TheVariants.{Header, NoEnd, Crc, Trailer, BlockCheck, HighBit}
use Rattle.pw_frame.specs.Frame.{FrameText, Head, BlockEnd, Framed, Whole, block_start}
use Rattle.pw_frame.specs.FirstFault.{BadHeader, HighHeader, HighLine, HighBlock, Endless, BadEnding, BadCheck, IsFault}
use Rattle.pw_frame.proofs.Unique.{same_place, one_header, one_stated, one_right, block_at, ending_at, right_at}

-- ---- what a head or a block's end rules out

pub bad_head : (rest : List ℕ) (k : Kind) (e : ℕ) → BadHeader rest → Head rest k e → ⊥
bad_head rest k e x h = x.bad k (subst (Head rest k) (one_header rest e x.end h.header x.header) h)

pub high_header_head : (rest : List ℕ) (i : ℕ) (k : Kind) (e : ℕ) → HighHeader rest i → Head rest k e → ⊥
high_header_head rest i k e x h =
    let cr : slice_index rest i ≡ 13 = subst (λ (j : ℕ). slice_index rest j ≡ 13) (one_header rest e i h.header x.header) h.cr in
    omega (arith, cr, x.high)

pub high_line_head : (rest : List ℕ) (i : ℕ) (k : Kind) (e : ℕ) → HighLine rest i → Head rest k e → ⊥
high_line_head rest i k e x h =
    let lf : slice_index rest i ≡ 10 = subst (λ (j : ℕ). slice_index rest j ≡ 10) (ap (λ (j : ℕ). j + 1) (one_header rest e x.end h.header x.header) ∙ sym x.place) h.lf in
    omega (arith, lf, x.high)

pub high_block_end : (rest : List ℕ) (i : ℕ) (k : Kind) (a e : ℕ) → HighBlock rest i → Framed rest k a e → ⊥
high_block_end rest i k a e x y =
    let b : BlockEnd rest (block_start x.kind x.end) e = block_at rest k x.kind a x.end e y.head x.head y.block in
    let early : e < i → ⊥ = λ l. x.before.endless e b.from l b.here in
    let late : i < e → ⊥ = λ l. (let low : slice_index rest i < 128 = b.before.seven i x.from l in omega (arith, low, x.high)) in
    let mark : slice_index rest i ≡ 33 = subst (λ (j : ℕ). slice_index rest j ≡ 33) (same_place e i early late) b.here.0 in
    omega (arith, mark, x.high)

pub endless_end : (rest : List ℕ) (k : Kind) (a e : ℕ) → Endless rest → Framed rest k a e → ⊥
endless_end rest k a e x y =
    let b : BlockEnd rest (block_start x.kind x.end) e = block_at rest k x.kind a x.end e y.head x.head y.block in
    (x.plain (suc e)).endless e b.from (omega arith) b.here

-- ---- against a whole frame

bad_ending : (rest : List ℕ) (f : FrameText) (s : ℕ) → BadEnding rest → Whole rest f s → ⊥
bad_ending rest f s x w = x.bad w.check (ending_at rest f.kind x.kind _ _ _ _ w.check w.framed x.framed w.stated)

bad_check : (k : Kind) (rest : List ℕ) (stated computed : ℕ) (f : FrameText) (s : ℕ) → BadCheck k rest stated computed → Whole rest f s → ⊥
bad_check k rest stated computed f s x w =
    let a : stated ≡ w.check = one_stated rest k x.block_end stated w.check x.ending (ending_at rest f.kind k _ _ _ _ w.check w.framed x.framed w.stated) in
    let b : computed ≡ w.check = one_right rest k x.header_end x.block_end computed w.check x.right (right_at rest f.kind k _ _ _ _ w.check w.framed x.framed w.right) in
    x.unlike (a ∙ sym b)

pub no_whole : (rest : List ℕ) (place : ℕ) (fault : FrameFault) (f : FrameText) (s : ℕ) → IsFault rest place fault → Whole rest f s → ⊥
no_whole rest place (Header at) f s x w = ⊎_elim (λ n. n w.framed.head.header.slash) (λ b. bad_head rest f.kind w.header_end b w.framed.head) x.1
no_whole rest place (NoEnd at) f s x w = endless_end rest f.kind w.header_end w.block_end x.1 w.framed
no_whole rest place (Crc at stated computed) f s x w = bad_check _ rest stated computed f s x.1 w
no_whole rest place (Trailer at) f s x w = bad_ending rest f s x.1 w
no_whole rest place (BlockCheck at stated computed) f s x w = bad_check _ rest stated computed f s x.1 w
no_whole rest place (HighBit at) f s x w =
    ⊎_elim
    (λ h. high_header_head rest x.0 f.kind w.header_end h w.framed.head)
    (λ o. ⊎_elim (λ h. high_line_head rest x.0 f.kind w.header_end h w.framed.head) (λ h. high_block_end rest x.0 f.kind w.header_end w.block_end h w.framed) o)
    x.2
