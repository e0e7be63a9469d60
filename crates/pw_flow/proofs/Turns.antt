-- One turn of a loop over the seconds of a pair.
use Rattle.std.proofs.Common.{◌≡◌, ℕ, ◌+◌, ◌-◌, ◌<◌, ◌≤◌, Bool, true, false, arith, inl, inr}
use Rattle.std.proofs.lemmas.Bool.{cases_lt}
use Rattle.pw_flow.specs.Time.{sum_over}
use Rattle.pw_flow.specs.Flow.{level, pair_flow}
use Rattle.pw_flow.specs.Energy.{kept, cell}
use Rattle.pw_flow.proofs.Sums.{sum-none}
use Rattle.pw_flow.proofs.Level.{sum-more, level-up, level-start, level-end, pieces-add, pair_flow-fall}

-- a second that is kept brings its flow
pub turn-kept : (asked : ℕ → Bool) (f : ℕ → ℕ) (x t e n : ℕ) → x ≤ t → asked t ≡ true → n ≡ f t → e ≡ sum_over (kept asked f) x (t - x) → e + n ≡ sum_over (kept asked f) x (t + 1 - x)
turn-kept asked f x t e n h k i j =
    let m : sum_over (kept asked f) x (t + 1 - x) ≡ sum_over (kept asked f) x (t - x) + kept asked f t = sum-more (kept asked f) x t h in
    let o : sum_over (kept asked f) x (t + 1 - x) ≡ sum_over (kept asked f) x (t - x) + f t = rw k at m in
    omega arith

-- and another brings nothing
pub turn-left : (asked : ℕ → Bool) (f : ℕ → ℕ) (x t e : ℕ) → x ≤ t → asked t ≡ false → e ≡ sum_over (kept asked f) x (t - x) → e ≡ sum_over (kept asked f) x (t + 1 - x)
turn-left asked f x t e h k j =
    let m : sum_over (kept asked f) x (t + 1 - x) ≡ sum_over (kept asked f) x (t - x) + kept asked f t = sum-more (kept asked f) x t h in
    let o : sum_over (kept asked f) x (t + 1 - x) ≡ sum_over (kept asked f) x (t - x) + 0 = rw k at m in
    omega arith

-- the flows of the seconds so far are at most the rise
pub flows-le : (x w y v t : ℕ) → x ≤ t → t ≤ y → sum_over (pair_flow (x, w) (y, v)) x (t - x) ≤ v - w
unfolding sum_over
flows-le x w y v t h i =
    elim (cases_lt v w) [
      | inl f ↦ (let z : sum_over (pair_flow (x, w) (y, v)) x (t - x) ≡ 0 = sum-none _ x (t - x) (λ s a b. pair_flow-fall x w y v s f) in omega arith)
      | inr r ↦ elim (cases_lt x y) [
        | inl l ↦ (
            let e : sum_over (pair_flow (x, w) (y, v)) x (t - x) ≡ level x w y v t - level x w y v x = pieces-add x w y v x t l r h in
            let u : level x w y v t ≤ level x w y v y = level-up x w y v t y l i in
            let s : level x w y v x ≡ w = level-start x w y v in
            let d : level x w y v y ≡ v = level-end x w y v l r in
            omega arith)
        | inr g ↦ (let z : t - x ≡ 0 = omega arith in rw z (omega arith))
      ]
    ]

pub sum-from_start : (f : ℕ → ℕ) (x : ℕ) → sum_over f x (x - x) ≡ 0
unfolding sum_over
sum-from_start f x = let z : x - x ≡ 0 = omega arith in rw z

-- at the end of the loop the sum is the pair's cell
pub cell-ended : (asked : ℕ → Bool) (x w y v t e : ℕ) → x ≤ t → y ≤ t → (x ≤ y → t ≤ y) → (y < x → t ≡ x) →
    e ≡ sum_over (kept asked (pair_flow (x, w) (y, v))) x (t - x) → e ≡ cell asked (x, w) (y, v)
unfolding cell
cell-ended asked x w y v t e h i j k l =
    let s : t - x ≡ y - x = elim (cases_lt y x) [ inl b ↦ (let z = k b in omega arith) | inr b ↦ (let z = j b in omega arith) ] in
    rw s at l

pub rise-ended : (x w y v t e : ℕ) → x ≤ t → (x ≤ y → t ≤ y) → (y < x → t ≡ x) → e ≤ sum_over (pair_flow (x, w) (y, v)) x (t - x) → e ≤ v - w
rise-ended x w y v t e h j k l =
    elim (cases_lt y x) [
      | inl b ↦ (
          let z : t ≡ x = k b in
          let o : sum_over (pair_flow (x, w) (y, v)) x (x - x) ≡ 0 = sum-from_start _ x in
          let l2 : e ≤ sum_over (pair_flow (x, w) (y, v)) x (x - x) = rw z at l in
          omega arith)
      | inr b ↦ (let u = flows-le x w y v t h (j b) in omega arith)
    ]
