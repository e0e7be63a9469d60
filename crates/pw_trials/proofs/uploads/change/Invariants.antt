use Rattle.std.proofs.Common.{◌≡◌}
use Rattle.pw_trials.proofs.uploads.change.Given as goal

abbrev pub invariant-loop-number : goal.invariant-loop-number
invariant-loop-number g l = (g.S.Shelf.state l.shelf).begun ≡ (g.S.Shelf.state l.initial.shelf).begun
