use Rattle.std.proofs.Common.{◌+◌, ◌*◌}
use Rattle.pw_book.specs.Asking.{IsOnlyAsked}
use Rattle.pw_book.specs.inner.Places.{FallsBefore, TellsPoints}
use Rattle.pw_book.proofs.falls.add_meter.Given as goal

abbrev pub invariant-loop-register : goal.invariant-loop-register
invariant-loop-register g l = record {
  falls : g.S.Shelf.clean l.shelf → TellsPoints (g.S.Shelf.state l.initial.shelf).content →
      FallsBefore (g.S.Shelf.state l.initial.shelf).content.records (6 * l.meter.0) l.initial.falls.items →
      FallsBefore (g.S.Shelf.state l.initial.shelf).content.records (6 * l.meter.0 + l.register-index) l.falls.items;
  asked : IsOnlyAsked g.S.Shelf 0 l.initial.shelf l.shelf;
}
