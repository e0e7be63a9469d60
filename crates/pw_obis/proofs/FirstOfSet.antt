-- A set of a block has a first value.
use Rattle.std.proofs.Common.{suc, ◌≡◌, ℕ, ◌+◌, ◌-◌, ◌<◌, ◌≤◌, List, ◌∷◌, length, take, drop, sym, ap, ◌∙◌, arith}
use Rattle.std.specs.Prelude.{slice_index, slice_range}
use Rattle.std.proofs.lemmas.List.{drop_more, get_or-take, get_or-drop, length-take, length-drop}
use Rattle.pw_obis.specs.Line.{ValueAt, SetAt}
use Rattle.pw_obis.specs.lemmas.Places.{values_rise}
use Rattle.pw_obis.specs.FirstValue.{FirstValue}
use Rattle.pw_obis.proofs.FirstMark.{first_is}

begins : (b : List ℕ) (mid to : ℕ) → mid < to → mid < length b → slice_index b mid ≡ 40 → slice_range b mid to ≡ 40 ∷ slice_range b (mid + 1) to
begins b mid to h l e =
    ap (λ (n : ℕ). take n (drop mid b)) (let s : to - mid ≡ suc (to - (mid + 1)) = omega (arith, h) in s)
    ∙ ap (λ (xs : List ℕ). take (suc (to - (mid + 1))) xs) (drop_more b mid 0 l)
    ∙ ap (λ (c : ℕ). c ∷ slice_range b (mid + 1) to) e

index : (b : List ℕ) (from to i : ℕ) → i < to - from → slice_index (slice_range b from to) i ≡ slice_index b (from + i)
index b from to i l = get_or-take (to - from) (drop from b) i 0 l ∙ get_or-drop from b i 0

size : (b : List ℕ) (from to : ℕ) → from ≤ to → to ≤ length b → length (slice_range b from to) ≡ to - from
size b from to h l = omega (arith, h, l, length-take (to - from) (drop from b), length-drop from b)

first_at : (b : List ℕ) (mid next to : ℕ) → (v : ValueAt b mid next) → next ≤ to → to ≤ length b
    → FirstValue (slice_range b mid to) (take (v.close - (mid + 1)) (slice_range b (mid + 1) to))
first_at b mid next to v h l =
    let far : mid + 1 ≤ v.close = v.text.rises in
    let near : v.close < to = omega (arith, v.next, h) in
    let room : length (slice_range b (mid + 1) to) ≡ to - (mid + 1) = size b (mid + 1) to (omega (arith, far, near)) l in
    first_is (slice_range b mid to) (slice_range b (mid + 1) to) (v.close - (mid + 1))
    (begins b mid to (omega (arith, far, near)) (omega (arith, far, near, l)) v.left)
    (omega (arith, room, far, near))
    (λ k m e. (v.text.each (mid + 1 + k) (omega arith) (omega (arith, m, far))).3 (sym (index b (mid + 1) to k (omega (arith, m, near))) ∙ e))
    (index b (mid + 1) to (v.close - (mid + 1)) (omega (arith, far, near)) ∙ ap (λ (i : ℕ). slice_index b i) (omega (arith, far)) ∙ v.right)

pub first_of_set : (b : List ℕ) (from mid to : ℕ) → SetAt b from mid to → to ≤ length b → (value : List ℕ) × FirstValue (slice_range b mid to) value
first_of_set b from mid to s l =
    let v : ValueAt b mid s.values.0 = s.values.1 in
    (take (v.close - (mid + 1)) (slice_range b (mid + 1) to), first_at b mid s.values.0 to v (values_rise b s.others s.values.0 to s.values.2) l)
