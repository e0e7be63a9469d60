use Rattle.std.proofs.Common.{sym, ap, ◌∙◌}
use Rattle.pw_model.proofs.Standing.{unnamed}
use Rattle.pw_book.specs.inner.Withdrawn.{is_something}
use Rattle.pw_book.proofs.WithdrawnTold.{withdrawn-told}
use Rattle.pw_book.proofs.withdrawn.is_withdrawn.Goals as goal

pub returns-in_default-clause-withdrawn : goal.returns-in_default-clause-withdrawn
returns-in_default-clause-withdrawn g c = λ k. unnamed (g.S.Shelf.state c.args.shelf.now).content.records c.args.entry.now (sym c.in_default.is ∙ c.of.ensures)

pub returns-clause-withdrawn : goal.returns-clause-withdrawn
returns-clause-withdrawn g c = λ k.
    c.is_told.ensures ∙ ap is_something (c.in_ok-contents.ensures.told k)
    ∙ withdrawn-told (g.S.Shelf.state c.args.shelf.now).content.records c.args.entry.now c.in-Some.named (sym c.in-Some.is ∙ c.of.ensures)
