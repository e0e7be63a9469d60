use Rattle.std.proofs.Common.{take, Ok}
use Rattle.pw_carrying.specs.Carrying.{HasUploads}
use Rattle.pw_carrying.specs.inner.Stages.{Gives}
use Rattle.pw_carrying.proofs.waiting.give_all.Given as goal

abbrev pub invariant-loop-entry : goal.invariant-loop-entry
invariant-loop-entry g l = record {
  gives : g.T.Shelf.clean l.into.shelf →
      Gives l.fn.basis.office.now l.fn.into.office (take l.entry-index l.entries) (g.T.Shelf.state l.fn.into.shelf).content.records l.fn.waiting.entries.items (g.T.Shelf.state l.into.shelf).content.records l.waiting.entries.items (Ok (tt {0}));
  uploads : HasUploads g.T.Shelf {X = Unit {0}} (Ok tt) l.fn.into l.into;
}
