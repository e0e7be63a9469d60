-- The amounts of a bill in whole cents: they are far from the ends of a word.
use Rattle.std.proofs.Common.{◌≡◌, ◌∙◌, ◌/◌, ◌^◌, ◌<◌, ◌≤ℤ◌, ℕ, ℤ, pos, neg_ℤ, ◌+ℤ◌, ◌-ℤ◌, FitsSigned, to_z, of_z, ap, arith, subst, sym}
use Rattle.std.specs.Int.{w128}
use Rattle.std.proofs.lemmas.Int.{ints, to_z-of_z, to_z_pos}

-- as a word keeps it
abbrev pub kept : ℤ → ℤ
kept z = to_z w128 (of_z w128 z)

-- near enough to 0
pub record IsNear (z : ℤ) : Type 0 where
  pub low : neg_ℤ (pos (2 ^ 105)) ≤ℤ z
  pub high : z ≤ℤ pos (2 ^ 105)

fits-near : (z : ℤ) → neg_ℤ (pos (2 ^ 110)) ≤ℤ z → z ≤ℤ pos (2 ^ 110) → FitsSigned w128 z
fits-near z l h = omega (arith, ints, l, h)

kept-near : (z : ℤ) → neg_ℤ (pos (2 ^ 110)) ≤ℤ z → z ≤ℤ pos (2 ^ 110) → kept z ≡ z
kept-near z l h = to_z-of_z w128 z (fits-near z l h)

pub near-is : (z : ℤ) → IsNear z → kept z ≡ z
near-is z h = let l = h.low in let u = h.high in kept-near z (omega (arith, ints, l)) (omega (arith, ints, u))

pub cents-of : (n : ℕ) → n < 2 ^ 112 → to_z w128 (n / 10_000_000) ≡ pos (n / 10_000_000)
cents-of n l = to_z_pos w128 (n / 10_000_000) (omega (arith, l))

-- ---- what is added
module _ (begin topped end : ℤ) (imported exported : ℕ) (b : IsNear begin) (t : IsNear topped) (e : IsNear end) (i : imported < 2 ^ 112) (x : exported < 2 ^ 112) where
  -- what the end would be
  summed : kept (kept (kept (kept begin +ℤ kept topped) -ℤ to_z w128 (imported / 10_000_000)) +ℤ to_z w128 (exported / 10_000_000))
      ≡ ((begin +ℤ topped) -ℤ pos (imported / 10_000_000)) +ℤ pos (exported / 10_000_000)
  summed =
      let bl = b.low in let bh = b.high in let tl = t.low in let th = t.high in
      let one : kept (kept begin +ℤ kept topped) ≡ begin +ℤ topped
      = (λ k. kept (near-is begin b k +ℤ near-is topped t k)) ∙ kept-near (begin +ℤ topped) (omega (arith, ints, bl, tl)) (omega (arith, ints, bh, th)) in
      let two : kept (kept (kept begin +ℤ kept topped) -ℤ to_z w128 (imported / 10_000_000)) ≡ (begin +ℤ topped) -ℤ pos (imported / 10_000_000)
      = (λ k. kept (one k -ℤ cents-of imported i k))
      ∙ kept-near ((begin +ℤ topped) -ℤ pos (imported / 10_000_000)) (omega (arith, ints, bl, tl, i)) (omega (arith, ints, bh, th, i)) in
      (λ k. kept (two k +ℤ cents-of exported x k))
      ∙ kept-near (((begin +ℤ topped) -ℤ pos (imported / 10_000_000)) +ℤ pos (exported / 10_000_000)) (omega (arith, ints, bl, tl, i, x)) (omega (arith, ints, bh, th, i, x))

  added : kept end -ℤ kept (kept (kept (kept begin +ℤ kept topped) -ℤ to_z w128 (imported / 10_000_000)) +ℤ to_z w128 (exported / 10_000_000))
      ≡ end -ℤ (((begin +ℤ topped) -ℤ pos (imported / 10_000_000)) +ℤ pos (exported / 10_000_000))
  added = λ k. near-is end e k -ℤ summed k

  difference : FitsSigned w128 (end -ℤ (((begin +ℤ topped) -ℤ pos (imported / 10_000_000)) +ℤ pos (exported / 10_000_000)))
  difference =
      let bl = b.low in let bh = b.high in let tl = t.low in let th = t.high in let el = e.low in let eh = e.high in
      omega (arith, ints, bl, bh, tl, th, el, eh, i, x)

  pub rounding-fits : FitsSigned w128 (kept end -ℤ kept (kept (kept (kept begin +ℤ kept topped) -ℤ to_z w128 (imported / 10_000_000)) +ℤ to_z w128 (exported / 10_000_000)))
  rounding-fits = subst (FitsSigned w128) (sym added) difference

  pub rounding-is : kept (kept end -ℤ kept (kept (kept (kept begin +ℤ kept topped) -ℤ to_z w128 (imported / 10_000_000)) +ℤ to_z w128 (exported / 10_000_000)))
      ≡ end -ℤ (((begin +ℤ topped) -ℤ pos (imported / 10_000_000)) +ℤ pos (exported / 10_000_000))
  rounding-is = ap kept added ∙ to_z-of_z w128 _ difference
