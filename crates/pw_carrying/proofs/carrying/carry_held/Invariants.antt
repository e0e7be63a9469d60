use Rattle.std.proofs.Common.{Ok}
use Rattle.pw_book.specs.Asking.{IsOnlyAsked}
use Rattle.pw_carrying.specs.Carrying.{HasUploads}
use Rattle.pw_carrying.specs.inner.Stages.{CarriesOn}
use Rattle.pw_carrying.proofs.carrying.carry_held.Given as goal

abbrev pub invariant-loop-place : goal.invariant-loop-place
invariant-loop-place g l = record {
  carried : g.S.Shelf.clean l.shelf → g.T.Shelf.clean l.into.shelf →
      CarriesOn l.fn.basis.office.now l.fn.into.office (g.S.Shelf.state l.fn.shelf).content.records 0 l.place (g.T.Shelf.state l.fn.into.shelf).content.records l.fn.waiting.entries.items
      (g.T.Shelf.state l.into.shelf).content.records l.waiting.entries.items (Ok (tt {0}));
  asked : IsOnlyAsked g.S.Shelf 0 l.fn.shelf l.shelf;
  uploads : HasUploads g.T.Shelf {X = Unit {0}} (Ok tt) l.fn.into l.into;
}
