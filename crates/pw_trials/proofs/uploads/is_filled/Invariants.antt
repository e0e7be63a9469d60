use Rattle.std.proofs.Common.{◌≡◌, None}
use Rattle.pw_trials.proofs.uploads.is_filled.Given as goal

abbrev pub invariant-loop-number : goal.invariant-loop-number
invariant-loop-number g l = (g.S.Shelf.state l.shelf).begun ≡ None
