-- The points of a list that rises: as a function of the second it has just these, and its energy is that of its pairs.
use Rattle.std.proofs.Common.{◌≡◌, ℕ, suc, ◌+◌, ◌<◌, ◌≤◌, Option, Some, None, List, [], ◌∷◌, length, map, get_or, All, Bool, refl, sym, ◌∙◌, subst, arith}
use Rattle.std.specs.List.Sorted.{IsStrictlyIncreasing}
use Rattle.std.proofs.lemmas.Bool.{eq-eqb, ne_eqb}
use Rattle.std.proofs.lemmas.List.Elements.{All-head, All-tail}
use Rattle.pw_flow.specs.declared.plain.Point.{Point}
use Rattle.pw_flow.specs.Energy.{register_energy}
use Rattle.pw_flow.specs.Pairs.{ListsPoints}
use Rattle.pw_flow.specs.Pairs.{pairs_sum}
use Rattle.pw_flow.specs.Plain.{value_at}
use Rattle.pw_flow.specs.inner.Plain.{times_of}
use Rattle.pw_flow.proofs.Pairs.{energy-pairs}

abbrev pub pair_of : Point → ℕ × ℕ
pair_of p = (p.at, p.watt_hours)

abbrev pub pairs_of : List Point → List (ℕ × ℕ)
pairs_of ps = map pair_of ps

rising-first : (a b : Point) (ps : List Point) → IsStrictlyIncreasing (times_of (a ∷ b ∷ ps)) → a.at < b.at
rising-first a b ps h = h 0 (omega arith)

rising-rest : (a : Point) (ps : List Point) → IsStrictlyIncreasing (times_of (a ∷ ps)) → IsStrictlyIncreasing (times_of ps)
rising-rest a ps h k l =
    let e : suc k + 1 ≡ suc (k + 1) = omega arith in
    let P : ℕ → Type 0 = λ n. get_or (times_of ps) k 0 < get_or (times_of (a ∷ ps)) n 0 in
    subst P e (h (suc k) (omega arith))

-- nothing stands before the first point
none-before : (ps : List Point) (a : Point) (s : ℕ) → IsStrictlyIncreasing (times_of (a ∷ ps)) → s < a.at → value_at (a ∷ ps) s ≡ None
unfolding value_at
none-before [] a s h l = rw (ne_eqb a.at s (λ e. absurd (omega arith)))
none-before (b ∷ ps) a s h l =
    let m : a.at < b.at = rising-first a b ps h in
    let r : value_at (b ∷ ps) s ≡ None = none-before ps b s (rising-rest a (b ∷ ps) h) (omega arith) in
    rw (ne_eqb a.at s (λ e. absurd (omega arith))) r

-- behind the first point the rest of the list stands
behind-first : (a : Point) (ps : List Point) (s : ℕ) → a.at < s → value_at (a ∷ ps) s ≡ value_at ps s
unfolding value_at
behind-first a ps s l = rw (ne_eqb a.at s (λ e. absurd (omega arith)))

at-first : (a : Point) (ps : List Point) → value_at (a ∷ ps) a.at ≡ Some a.watt_hours
unfolding value_at
at-first a ps = rw (eq-eqb a.at a.at refl)

-- what two functions that agree from a second on list from there
lists-same : (p q : ℕ → Option ℕ) (end from : ℕ) (ps : List (ℕ × ℕ)) → ((s : ℕ) → from ≤ s → p s ≡ q s) → ListsPoints p end from ps → ListsPoints q end from ps
lists-same p q end from [] h l = λ s a. sym (h s a) ∙ l s a
lists-same p q end from (a ∷ ps) h l = (
  l.0,
  l.1,
  sym (h a.0 l.0) ∙ l.2,
  λ s i j. sym (h s i) ∙ l.3 s i j,
  lists-same p q end (suc a.0) ps (λ s i. let g : from ≤ a.0 = l.0 in h s (omega arith)) l.4,
)

lists-from : (a : Point) (ps : List Point) (end from : ℕ) → IsStrictlyIncreasing (times_of (a ∷ ps)) → All (λ p. p.at < end) (a ∷ ps) → from ≤ a.at → ListsPoints (value_at (a ∷ ps)) end from (pairs_of (a ∷ ps))
unfolding value_at
lists-from a [] end from h l f = (
  f,
  All-head (λ p. p.at < end) a [] l,
  at-first a [],
  λ s i j. none-before [] a s h j,
  λ s i. behind-first a [] s (omega arith),
)
lists-from a (b ∷ ps) end from h l f = (
  f,
  All-head (λ p. p.at < end) a (b ∷ ps) l,
  at-first a (b ∷ ps),
  λ s i j. none-before (b ∷ ps) a s h j,
  lists-same (value_at (b ∷ ps)) (value_at (a ∷ b ∷ ps)) end (suc a.at) (pairs_of (b ∷ ps)) (λ s i. sym (behind-first a (b ∷ ps) s (omega arith)))
      (lists-from b ps end (suc a.at) (rising-rest a (b ∷ ps) h) (All-tail (λ p. p.at < end) a (b ∷ ps) l) (rising-first a b ps h)),
)

-- the points of a list that rises
pub lists-points : (ps : List Point) (end : ℕ) → IsStrictlyIncreasing (times_of ps) → All (λ p. p.at < end) ps → ListsPoints (value_at ps) end 0 (pairs_of ps)
unfolding value_at
lists-points [] end h l = λ s a. refl
lists-points (a ∷ ps) end h l = lists-from a ps end 0 h l (omega arith)

pub energy-points : (asked : ℕ → Bool) (ps : List Point) (end : ℕ) → IsStrictlyIncreasing (times_of ps) → All (λ p. p.at < end) ps → register_energy asked (value_at ps) end ≡ pairs_sum asked (pairs_of ps)
energy-points asked ps end h l = energy-pairs asked (value_at ps) end (pairs_of ps) (lists-points ps end h l)

-- ---- a loop over the windows of two points
-- where no window is left, no pair is
pub windows-ended : (asked : ℕ → Bool) (rest : List Point) → length rest < 2 → pairs_sum asked (pairs_of rest) ≡ 0
windows-ended asked [] l = refl
windows-ended asked (a ∷ []) l = refl
windows-ended asked (a ∷ b ∷ ps) l = absurd (omega arith)
