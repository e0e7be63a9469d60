-- Calls for one part after another, each of which takes so many at most.
use Rattle.std.proofs.Common.{ℕ, ◌+◌, ◌*◌, ◌<◌, ◌≤◌, mul-le-mul_right, arith}
use Rattle.std.proofs.lemmas.Nat.{row_fits}

-- some of the parts, and one more
pub part-more : (was mid now each some all : ℕ) → mid ≤ was + 2 * (some * each) → now ≤ mid + 2 * each → some < all → now ≤ was + 2 * (all * each)
part-more was mid now each some all a b l = let z = row_fits some each all each l (omega arith) in omega (arith, a, b, z)

-- no more of the parts than there are
pub part-all : (was now each some all : ℕ) → now ≤ was + 2 * (some * each) → some ≤ all → now ≤ was + 2 * (all * each)
part-all was now each some all a l = let z = mul-le-mul_right each l in omega (arith, a, z)
