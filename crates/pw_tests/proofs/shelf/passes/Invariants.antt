use Rattle.std.proofs.Common.{◌≡◌}
use Rattle.pw_tests.proofs.shelf.passes.Given as goal

abbrev pub invariant-loop-stage : goal.invariant-loop-stage
invariant-loop-stage g l = record {
  begun : (g.S.Shelf.state l.shelf).begun ≡ (g.S.Shelf.state l.initial.shelf).begun;
}
