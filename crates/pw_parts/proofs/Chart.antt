-- What is told by the second, as a list of pairs.
use Rattle.std.proofs.Common.{◌≡◌, ℕ, suc, ◌<◌, ◌≤◌, Bool, length, Option, Some, List, [], ◌∷◌, refl, ap, ◌∙◌, inl, inr, Less, Equal, Greater, arith}
use Rattle.std.specs.Cmp.{nat_cmp_is}
use Rattle.std.specs.Ordering.{nat_cmp}
use Rattle.std.proofs.lemmas.Bool.{cases_lt}
use Rattle.pw_flow.specs.Pairs.{ListsPoints}
use Rattle.pw_flow.specs.Pairs.{pairs_sum}
use Rattle.pw_flow.proofs.Points.{option-cases}
use Rattle.pw_model.specs.Counting.{Member}
use Rattle.pw_model.specs.Lists.{IsInOrder}
use Rattle.pw_model.specs.Seconds.{ListsSeconds, by_second}
use Rattle.pw_model.proofs.InOrder.{before-member}

pub less-is : (x y : ℕ) → nat_cmp x y ≡ Less → x < y
less-is x y h = elim (cases_lt x y) [
  | inl l ↦ l
  | inr m ↦ elim (cases_lt y x) [
    | inl k ↦ absurd (let g : Greater ≡ nat_cmp x y = nat_cmp_is x y Greater k in let b : Greater ≡ Less = g ∙ h in cc)
    | inr k ↦ absurd (let e : x ≡ y = omega arith in let g : Equal ≡ nat_cmp x y = nat_cmp_is x y Equal e in let b : Equal ≡ Less = g ∙ h in cc)
  ]
]

-- a list of the points from a second on
listed-from : (told : ℕ → Option ℕ) (end from : ℕ) (ps : List (ℕ × ℕ)) → IsInOrder by_second ps → ((a : ℕ × ℕ) → Member a ps → (told a.0 ≡ Some a.1) × (from ≤ a.0) × (a.0 < end)) →
    ((t w : ℕ) → from ≤ t → told t ≡ Some w → Member (t, w) ps) → ListsPoints told end from ps
listed-from told end from [] r h k = λ s l. elim (option-cases (told s)) [
  | inl n ↦ n
  | inr w ↦ absurd (k s w.0 l w.1)
]
listed-from told end from (a ∷ ps) r h k =
    let here = h a (inl refl) in (
      here.1,
      here.2,
      here.0,
      λ s l m. elim (option-cases (told s)) [
        | inl n ↦ n
        | inr w ↦ elim (k s w.0 l w.1) [
          | inl i ↦ absurd (let e : s ≡ a.0 = ap (λ (p : ℕ × ℕ). p.0) i in omega arith)
          | inr b ↦ absurd (let q : a.0 < s = less-is a.0 s (before-member by_second a (s, w.0) ps r.0 b) in omega arith)
        ]
      ],
      listed-from told end (suc a.0) ps r.1
          (λ b m. (let g = h b (inr m) in let q : a.0 < b.0 = less-is a.0 b.0 (before-member by_second a b ps r.0 m) in (g.0, omega arith, g.2)))
          (λ t w l e. elim (k t w (let f = here.1 in omega (arith, l, f)) e) [
            | inl i ↦ absurd (let q : t ≡ a.0 = ap (λ (p : ℕ × ℕ). p.0) i in omega (arith, l, q))
            | inr m ↦ m
          ]),
    )

pub listed : (told : ℕ → Option ℕ) (end : ℕ) (ps : List (ℕ × ℕ)) → ListsSeconds told ps → ((t w : ℕ) → told t ≡ Some w → t < end) → ListsPoints told end 0 ps
listed told end ps l e = listed-from told end 0 ps l.rising
    (λ a m. (let t = (l.members a).0 m in (t, omega arith, e a.0 a.1 t)))
    (λ t w f h. (l.members (t, w)).1 h)

-- where no window of two is left, no pair is
pub pairs-ended : (asked : ℕ → Bool) (rest : List (ℕ × ℕ)) → length rest < 2 → pairs_sum asked rest ≡ 0
pairs-ended asked [] l = refl
pairs-ended asked (a ∷ []) l = refl
pairs-ended asked (a ∷ b ∷ ps) l = absurd (omega arith)
