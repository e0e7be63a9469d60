use Rattle.pw_tariff.specs.Office.{office_of}
use Rattle.pw_book.specs.Asking.{IsOnlyAsked}
use Rattle.pw_carrying.specs.inner.Unsent.{AddsUnsent}
use Rattle.pw_carrying.proofs.held.add_held.Given as goal

abbrev pub invariant-loop-place : goal.invariant-loop-place
invariant-loop-place g l = record {
  adds : g.S.Shelf.clean l.shelf → AddsUnsent (office_of l.fn.office) (g.S.Shelf.state l.fn.shelf).content.records l.fn.sent 0 l.place l.fn.found.items l.found.items;
  asked : IsOnlyAsked g.S.Shelf 0 l.fn.shelf l.shelf;
}
