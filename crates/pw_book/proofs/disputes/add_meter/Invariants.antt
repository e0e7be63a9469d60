use Rattle.std.proofs.Common.{ℕ, ◌+◌, ◌*◌, ◌<◌}
use Rattle.pw_book.specs.Asking.{IsOnlyAsked}
use Rattle.pw_book.specs.inner.Places.{AreWithin, DisputesBefore}
use Rattle.pw_book.proofs.disputes.add_meter.Given as goal

abbrev pub invariant-loop-register : goal.invariant-loop-register
invariant-loop-register g l = record {
  disputes : g.S.Shelf.clean l.shelf → (meters : ℕ) → AreWithin meters (g.S.Shelf.state l.initial.shelf).content.records → l.meter.0 < meters →
      DisputesBefore meters (g.S.Shelf.state l.initial.shelf).content.records (6 * l.meter.0) l.initial.disputes.items →
      DisputesBefore meters (g.S.Shelf.state l.initial.shelf).content.records (6 * l.meter.0 + l.register-index) l.disputes.items;
  asked : IsOnlyAsked g.S.Shelf 0 l.initial.shelf l.shelf;
}
