use Rattle.std.proofs.Common.{◌≡◌}
use Rattle.pw_tests.proofs.shelf.are_told.Given as goal

abbrev pub invariant-loop-answer : goal.invariant-loop-answer
invariant-loop-answer g l = record {
  begun : (g.S.Shelf.state l.shelf).begun ≡ (g.S.Shelf.state l.initial.shelf).begun;
}
