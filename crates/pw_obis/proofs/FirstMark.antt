-- A text is cut in one way at its first mark.
use Rattle.std.proofs.Common.{suc, ◌≡◌, ℕ, ◌+◌, ◌<◌, inl, inr, List, [], ◌∷◌, ◌++◌, length, take, drop, refl, sym, ap, ◌∙◌, arith, get_or}
use Rattle.std.specs.Prelude.{slice_index}
use Rattle.std.proofs.lemmas.List.{take-append-drop, drop_more, get_or_at, length-append, get_or-take, length-take}
use Rattle.pw_obis.specs.FirstValue.{FirstValue, IsFirstValue}

pub one_mark : (mark : ℕ) (n m u v : List ℕ) → ((i : ℕ) → i < length n → slice_index n i ≡ mark → ⊥) → ((i : ℕ) → i < length m → slice_index m i ≡ mark → ⊥)
    → n ++ mark ∷ u ≡ m ++ mark ∷ v → (n ≡ m) × (u ≡ v)
one_mark mark [] [] u v f g e = (refl, cc)
one_mark mark [] (c ∷ m) u v f g e = absurd (g 0 (omega arith) (cc))
one_mark mark (c ∷ n) [] u v f g e = absurd (f 0 (omega arith) (cc))
one_mark mark (c ∷ n) (d ∷ m) u v f g e =
    let tails : n ++ mark ∷ u ≡ m ++ mark ∷ v = cc in
    let w : (n ≡ m) × (u ≡ v) = one_mark mark n m u v (λ i l. f (suc i) (omega (arith, l))) (λ i l. g (suc i) (omega (arith, l))) tails in
    let heads : c ≡ d = cc in
    (cc (heads, w.0), w.1)

-- ---- the first value of a set

pub first_is : (values inner : List ℕ) (close : ℕ) → values ≡ 40 ∷ inner → close < length inner
    → ((k : ℕ) → k < close → slice_index inner k ≡ 41 → ⊥) → slice_index inner close ≡ 41 → FirstValue values (take close inner)
first_is values inner close e l before found = record {
  rest = drop (close + 1) inner;
  spelled =
      e
      ∙ ap (λ (t : List ℕ). 40 ∷ t)
      (sym (take-append-drop close inner)
      ∙ ap (λ (t : List ℕ). take close inner ++ t) (drop_more inner close 0 l ∙ ap (λ (c : ℕ). c ∷ drop (close + 1) inner) found));
  first = λ i m h. (let k : i < close = omega (arith, length-take close inner, m) in before i k (sym (get_or-take close inner i 0 k) ∙ h));
}

pub no_close : (values inner other : List ℕ) → values ≡ 40 ∷ inner → ((k : ℕ) → k < length inner → slice_index inner k ≡ 41 → ⊥) → FirstValue values other → ⊥
no_close values inner other e before x =
    let tails : 40 ∷ inner ≡ 40 ∷ (other ++ 41 ∷ x.rest) = sym e ∙ x.spelled in
    let same : inner ≡ other ++ 41 ∷ x.rest = cc in
    let size : length inner ≡ length other + length (41 ∷ x.rest) = ap length same ∙ length-append other (41 ∷ x.rest) in
    before (length other) (omega (arith, size)) (ap (λ t. get_or t (length other) 0) same ∙ get_or_at other 41 x.rest 0 (length other) refl)

-- a set has one first value
pub one_first_value : (values value other : List ℕ) → FirstValue values value → FirstValue values other → value ≡ other
one_first_value values value other x y =
    let both : 40 ∷ (value ++ 41 ∷ x.rest) ≡ 40 ∷ (other ++ 41 ∷ y.rest) = sym x.spelled ∙ y.spelled in
    let tails : value ++ 41 ∷ x.rest ≡ other ++ 41 ∷ y.rest = cc in
    (one_mark 41 value other x.rest y.rest x.first y.first tails).0

pub one_first_or_none : (values value other : List ℕ) → IsFirstValue values value → IsFirstValue values other → value ≡ other
one_first_or_none values value other (inl x) (inl y) = one_first_value values value other x y
one_first_or_none values value other (inl x) (inr y) = absurd (y.1 value x)
one_first_or_none values value other (inr x) (inl y) = absurd (x.1 other y)
one_first_or_none values value other (inr x) (inr y) = x.0 ∙ sym y.0
