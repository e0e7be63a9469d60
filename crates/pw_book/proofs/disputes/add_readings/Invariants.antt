use Rattle.std.proofs.Common.{◌≡◌, ℕ, ◌*◌}
use Rattle.pw_book.specs.Asking.{IsOnlyAsked}
use Rattle.pw_book.specs.inner.Places.{AreWithin, DisputesBefore}
use Rattle.pw_book.proofs.disputes.add_readings.Given as goal

abbrev pub invariant-loop-meter : goal.invariant-loop-meter
invariant-loop-meter g l = record {
  disputes : g.S.Shelf.clean l.shelf → (meters : ℕ) → AreWithin meters (g.S.Shelf.state l.initial.shelf).content.records → l.count ≡ meters →
      DisputesBefore meters (g.S.Shelf.state l.initial.shelf).content.records (0) l.initial.disputes.items →
      DisputesBefore meters (g.S.Shelf.state l.initial.shelf).content.records (6 * l.meter) l.disputes.items;
  asked : IsOnlyAsked g.S.Shelf 0 l.initial.shelf l.shelf;
}
