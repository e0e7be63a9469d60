use Rattle.std.proofs.Common.{◌≡◌, ◌<◌, ℕ, option_map, slice_get, Some, string_bytes}
use Rattle.pw_tariff.proofs.office.Office.account.Given as goal

abbrev pub invariant-loop-i : goal.invariant-loop-i
invariant-loop-i l = (k : ℕ) → k < l.i → option_map string_bytes (slice_get l.own-items k) ≡ Some l.name → ⊥
