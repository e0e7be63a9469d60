use Rattle.pw_book.specs.Asking.{IsOnlyAsked}
use Rattle.pw_book.specs.inner.Places.{AssignmentsBefore}
use Rattle.pw_book.proofs.assignments.all_assignments.Given as goal

abbrev pub invariant-loop-meter : goal.invariant-loop-meter
invariant-loop-meter g l = record {
  assignments : g.S.Shelf.clean l.shelf → AssignmentsBefore (g.S.Shelf.state l.fn.shelf).content.records l.meter l.found.items;
  asked : IsOnlyAsked g.S.Shelf 0 l.fn.shelf l.shelf;
}
