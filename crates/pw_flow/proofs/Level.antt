-- The level between neighbours rises, and its steps add up.
use Rattle.std.proofs.Common.{◌≡◌, ℕ, zero, suc, ◌+◌, ◌-◌, ◌*◌, ◌/◌, ◌<◌, ◌≤◌, Bool, arith, add-zero, inl, inr}
use Rattle.std.proofs.Math.Nat.{div-mul-le_self, mul-le-mul_left, mul-div_cancel, mul-zero, zero-div}
use Rattle.std.proofs.lemmas.Nat.{le-div}
use Rattle.std.proofs.lemmas.Bool.{le-leb, lt-leb, cond_both, cases_lt}
use Rattle.pw_flow.specs.Time.{sum_over}
use Rattle.pw_flow.specs.Laws.{CellIsAtMostRise}
use Rattle.pw_flow.specs.Flow.{level, pair_flow}
use Rattle.pw_flow.specs.Energy.{kept, cell}
use Rattle.pw_flow.proofs.Sums.{sum-none, kept-nothing}

pub div-mono : (m n d : ℕ) → 0 < d → m ≤ n → m / d ≤ n / d
div-mono m n d p h = let l : m / d * d ≤ m = div-mul-le_self m d in le-div (m / d) n d p (omega arith)

pub level-up : (x w y v s t : ℕ) → x < y → s ≤ t → level x w y v s ≤ level x w y v t
unfolding level
level-up x w y v s t h i =
    let m : (v - w) * (s - x) ≤ (v - w) * (t - x) = mul-le-mul_left (v - w) (omega arith) in
    let d : (v - w) * (s - x) / (y - x) ≤ (v - w) * (t - x) / (y - x) = div-mono _ _ (y - x) (omega arith) m in
    omega arith

-- at the ends the level is what was read
pub level-start : (x w y v : ℕ) → level x w y v x ≡ w
unfolding level
level-start x w y v = let e : x - x ≡ 0 = omega arith in rw (e, mul-zero, zero-div, add-zero)

pub level-end : (x w y v : ℕ) → x < y → w ≤ v → level x w y v y ≡ v
unfolding level
level-end x w y v h i =
    let d : (v - w) * (y - x) / (y - x) ≡ v - w = mul-div_cancel (v - w) (omega arith) in
    omega arith

-- what one second carries
pub pair_flow-is : (x w y v t : ℕ) → w ≤ v → pair_flow (x, w) (y, v) t ≡ level x w y v (t + 1) - level x w y v t
unfolding pair_flow
pair_flow-is x w y v t h = rw (le-leb w v h)

-- the flows of the seconds from p on add up to what the level rises by
pub flows-add : (x w y v p n : ℕ) → x < y → w ≤ v → level x w y v p + sum_over (pair_flow (x, w) (y, v)) p n ≡ level x w y v (p + n)
unfolding sum_over
flows-add x w y v p zero h i = let e : p + 0 ≡ p = add-zero p in rw (e, add-zero)
flows-add x w y v p (suc n) h i =
    let e : level x w y v p + sum_over (pair_flow (x, w) (y, v)) p n ≡ level x w y v (p + n) = flows-add x w y v p n h i in
    let s : p + suc n ≡ p + n + 1 = omega arith in
    let up : level x w y v (p + n) ≤ level x w y v (p + n + 1) = level-up x w y v (p + n) (p + n + 1) h (omega arith) in
    let f : pair_flow (x, w) (y, v) (p + n) ≡ level x w y v (p + n + 1) - level x w y v (p + n) = pair_flow-is x w y v (p + n) i in
    rw s (omega arith)

-- what is kept is at most the whole
pub kept-le : (k : ℕ → Bool) (f : ℕ → ℕ) (x n : ℕ) → sum_over (kept k f) x n ≤ sum_over f x n
unfolding sum_over
kept-le k f x zero = omega arith
kept-le k f x (suc n) =
    let e : sum_over (kept k f) x n ≤ sum_over f x n = kept-le k f x n in
    let d : kept k f (x + n) ≤ f (x + n) = cond_both (k (x + n)) (f (x + n)) 0 (λ y. y ≤ f (x + n)) (λ _. omega arith) (λ _. omega arith) in
    omega arith

-- one turn of a loop over seconds
pub sum-more : (f : ℕ → ℕ) (x t : ℕ) → x ≤ t → sum_over f x (t + 1 - x) ≡ sum_over f x (t - x) + f t
unfolding sum_over
sum-more f x t h =
    let e : t + 1 - x ≡ suc (t - x) = omega arith in
    let d : x + (t - x) ≡ t = omega arith in
    rw (e, d)

-- the flows of a piece of a pair add up to what the level rises by
pub pieces-add : (x w y v p q : ℕ) → x < y → w ≤ v → p ≤ q → sum_over (pair_flow (x, w) (y, v)) p (q - p) ≡ level x w y v q - level x w y v p
pieces-add x w y v p q h i b =
    let e : level x w y v p + sum_over (pair_flow (x, w) (y, v)) p (q - p) ≡ level x w y v (p + (q - p)) = flows-add x w y v p (q - p) h i in
    let d : p + (q - p) ≡ q = omega arith in
    let f : level x w y v p + sum_over (pair_flow (x, w) (y, v)) p (q - p) ≡ level x w y v q = rw d at e in
    omega arith

-- and those of the whole pair to what the value rises by
pub pair-adds : (x w y v : ℕ) → x < y → w ≤ v → sum_over (pair_flow (x, w) (y, v)) x (y - x) ≡ v - w
pair-adds x w y v h i =
    let e : sum_over (pair_flow (x, w) (y, v)) x (y - x) ≡ level x w y v y - level x w y v x = pieces-add x w y v x y h i (omega arith) in
    let f : level x w y v x ≡ w = level-start x w y v in
    let g : level x w y v y ≡ v = level-end x w y v h i in
    omega arith

-- a fall carries nothing
pub pair_flow-fall : (x w y v t : ℕ) → v < w → pair_flow (x, w) (y, v) t ≡ 0
unfolding pair_flow
pair_flow-fall x w y v t h = rw (lt-leb w v h)

-- a fall gives nothing
pub cell-fall : (k : ℕ → Bool) (x w y v : ℕ) → v < w → cell k (x, w) (y, v) ≡ 0
unfolding cell
cell-fall k x w y v h = sum-none _ x (y - x) (λ t a b. kept-nothing (k t) _ (pair_flow-fall x w y v t h))

-- a pair gives at most its rise
pub cell-le : (k : ℕ → Bool) (x w y v : ℕ) → x < y → w ≤ v → cell k (x, w) (y, v) ≤ v - w
unfolding cell
cell-le k x w y v h i =
    let e : sum_over (pair_flow (x, w) (y, v)) x (y - x) ≡ v - w = pair-adds x w y v h i in
    let l : sum_over (kept k (pair_flow (x, w) (y, v))) x (y - x) ≤ sum_over (pair_flow (x, w) (y, v)) x (y - x) = kept-le k (pair_flow (x, w) (y, v)) x (y - x) in
    omega arith

-- also where it falls, and where its seconds don't rise
pub cell-at_most : (k : ℕ → Bool) (x w y v : ℕ) → cell k (x, w) (y, v) ≤ v - w
unfolding cell sum_over
cell-at_most k x w y v =
    elim (cases_lt v w) [
      | inl f ↦ (let z : cell k (x, w) (y, v) ≡ 0 = cell-fall k x w y v f in omega arith)
      | inr r ↦ elim (cases_lt x y) [
        | inl l ↦ cell-le k x w y v l r
        | inr g ↦ (let z : y - x ≡ 0 = omega arith in rw z (omega arith))
      ]
    ]

pub gives-at_most : CellIsAtMostRise
gives-at_most k x w y v = record { at_most = cell-at_most k x w y v; fall = cell-fall k x w y v }
