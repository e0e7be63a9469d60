-- Which seconds are kept.
use Rattle.std.proofs.Common.{◌≡◌, ℕ, ◌+◌, ◌-◌, ◌<◌, ◌≤◌, Option, Bool, true, false, cond, ◌∙◌, ap, arith}
use Rattle.pw_flow.specs.Time.{sum_over}
use Rattle.pw_flow.specs.Flow.{pair_flow, flow}
use Rattle.pw_flow.specs.Energy.{kept, register_energy, cell}
use Rattle.pw_flow.specs.Changes.{SameSecondsSameEnergy}
use Rattle.pw_flow.specs.Changes.{PieceOfOneKind}
use Rattle.pw_flow.proofs.Sums.{sum-same, sum-none}
use Rattle.pw_flow.proofs.Level.{pieces-add}

-- where all seconds of a span are kept, all is kept
pub kept-all : (k : ℕ → Bool) (f : ℕ → ℕ) (x n : ℕ) → ((t : ℕ) → x ≤ t → t < x + n → k t ≡ true) → sum_over (kept k f) x n ≡ sum_over f x n
kept-all k f x n h = sum-same (kept k f) f x n (λ t a b. rw (h t a b))

-- where none is, nothing is
pub kept-none : (k : ℕ → Bool) (f : ℕ → ℕ) (x n : ℕ) → ((t : ℕ) → x ≤ t → t < x + n → k t ≡ false) → sum_over (kept k f) x n ≡ 0
kept-none k f x n h = sum-none (kept k f) x n (λ t a b. rw (h t a b))

-- where the same seconds are kept, the same is kept
pub kept-alike : (k l : ℕ → Bool) (f : ℕ → ℕ) (x n : ℕ) → ((t : ℕ) → x ≤ t → t < x + n → k t ≡ l t) → sum_over (kept k f) x n ≡ sum_over (kept l f) x n
kept-alike k l f x n h = sum-same (kept k f) (kept l f) x n (λ t a b. ap (λ c. cond c (f t) 0) (h t a b))

pub piece-of_one_kind : PieceOfOneKind
piece-of_one_kind k x w y v p q h i j = record {
  all_kept = λ a. kept-all k (pair_flow (x, w) (y, v)) p (q - p) (λ t b c. a t b (omega arith)) ∙ pieces-add x w y v p q h i j;
  none_kept = λ a. kept-none k (pair_flow (x, w) (y, v)) p (q - p) (λ t b c. a t b (omega arith));
}

pub cell-alike : (k l : ℕ → Bool) (x w y v : ℕ) → ((t : ℕ) → x ≤ t → t < y → k t ≡ l t) → cell k (x, w) (y, v) ≡ cell l (x, w) (y, v)
unfolding cell
cell-alike k l x w y v h = kept-alike k l (pair_flow (x, w) (y, v)) x (y - x) (λ t a b. h t a (omega arith))

pub energy-alike : (k l : ℕ → Bool) (p : ℕ → Option ℕ) (end : ℕ) → ((t : ℕ) → t < end → k t ≡ l t) → register_energy k p end ≡ register_energy l p end
unfolding register_energy
energy-alike k l p end h = kept-alike k l (flow p end) 0 end (λ t a b. h t (omega arith))

pub same-seconds : SameSecondsSameEnergy
same-seconds k l = record { cells = cell-alike k l; energies = energy-alike k l }
