use Rattle.std.proofs.Common.{◌≡◌, ◌==◌, ◌<◌, ℕ, get_or, false}
use Rattle.pw_http.proofs.routes.before_slash.Given as goal

abbrev pub invariant-loop-place : goal.invariant-loop-place
invariant-loop-place l = (k d : ℕ) → k < l.place → (get_or l.text k d == 47) ≡ false
