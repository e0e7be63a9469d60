use Rattle.std.proofs.Common.{◌*◌}
use Rattle.pw_book.specs.Asking.{IsOnlyAsked}
use Rattle.pw_book.specs.inner.Places.{FallsBefore}
use Rattle.pw_book.proofs.falls.falls_held.Given as goal

abbrev pub invariant-loop-meter : goal.invariant-loop-meter
invariant-loop-meter g l = record {
  falls : g.S.Shelf.clean l.shelf → FallsBefore (g.S.Shelf.state l.initial.shelf).content.records (6 * l.meter) l.falls.items;
  asked : IsOnlyAsked g.S.Shelf 0 l.initial.shelf l.shelf;
}
