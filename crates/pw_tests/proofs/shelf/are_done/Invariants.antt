use Rattle.std.proofs.Common.{◌≡◌}
use Rattle.pw_tests.proofs.shelf.are_done.Given as goal

abbrev pub invariant-loop-call : goal.invariant-loop-call
invariant-loop-call g l = record {
  begun : (g.S.Shelf.state l.shelf).begun ≡ (g.S.Shelf.state l.initial.shelf).begun;
}
