use Rattle.std.proofs.Common.{◌<◌, ℕ, ◌+◌, map, get_or}
use Rattle.pw_tariff.proofs.owners.Owners.of.Given as goal

abbrev pub invariant-loop-i : goal.invariant-loop-i
invariant-loop-i l = (k : ℕ) → k + 1 < l.i → get_or (map (λ s. s.0) l.starts) k 0 < get_or (map (λ s. s.0) l.starts) (k + 1) 0
