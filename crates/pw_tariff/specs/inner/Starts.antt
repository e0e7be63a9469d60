-- The starts of owners round a second. It serves `src/owners.rt` and `src/pieces.rt`.
use Rattle.std.specs.Prelude.{◌≡◌, ℕ, ◌<◌, ◌≤◌, Option, None, List, length, slice_index_or, IsSome}
use Rattle.pw_tariff.specs.declared.ids.AccountId.{AccountId}
use Rattle.pw_tariff.specs.Owners.{start_at}

-- so many starts, from the first on, aren't later than second t, and the others are
pub record AreBegun (starts : List (ℕ × Option AccountId)) (t count : ℕ) : Type 0 where
  pub bound : count ≤ length starts
  pub early : (k : ℕ) (s : ℕ × Option AccountId) → k < count → (slice_index_or starts k s).0 ≤ t
  pub late : (k : ℕ) (s : ℕ × Option AccountId) → count ≤ k → k < length starts → t < (slice_index_or starts k s).0

-- the first start behind second t and before end, or that end
pub record IsNextStart (starts : List (ℕ × Option AccountId)) (t end next : ℕ) : Type 0 where
  pub behind : t < next
  pub within : next ≤ end
  pub none : (s : ℕ) → t < s → s < next → start_at starts s ≡ None
  pub there : next < end → IsSome (start_at starts next)
