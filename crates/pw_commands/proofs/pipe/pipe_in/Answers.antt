use Rattle.std.proofs.Common.{◌∙◌, ap, refl, sym, subst, Ok, Err}
use Rattle.std.proofs.lemmas.Result.{err_from_is_err_and}
use Rattle.pw_tariff.specs.Office.{office_of}
use Rattle.pw_tariff.specs.Text.{IsOfficeOf}
use Rattle.pw_model.specs.Shelf.{IsTrueContent}
use Rattle.pw_model.proofs.Truth.{empty-true}
use Rattle.pw_shelf.specs.Memory.{state_of}
use Rattle.pw_shelf.specs.declared.memory.MemoryShelf.{MemoryShelf}
use Rattle.pw_commands.proofs.Piped.{flushed, piped, stopped}
use Rattle.pw_commands.proofs.pipe.pipe_in.Goals as goal

pub new-book-requires-clause-truth : goal.new-book-requires-clause-truth
new-book-requires-clause-truth g c = λ k. subst (IsTrueContent (office_of _)) (sym c.new.ensures.content) (empty-true (office_of _))

pub returns-in_err-converse : goal.returns-in_err-converse
returns-in_err-converse g c = λ text is.
    let p = err_from_is_err_and c.from_residual.result c.from_residual.ensures.1 in
    stopped _ _ _ _ _ _ _ c.from_residual.result p.0 p.1 (
    piped _ _ _ _ (g.O.Write.contents c.converse.new.writer) c.new-book.result c.converse.new.book text (Err c.in_err-converse.field-0.0)
    (subst (IsOfficeOf text) (sym c.new-book.ensures.office) is)
    (ap (λ (s : MemoryShelf). (state_of s).content) c.new-book.ensures.shelf ∙ c.new.ensures.content)
    c.new-book.ensures.open_yet c.in_err-converse.ensures.headline tt refl
    )

pub returns-in-Ok : goal.returns-in-Ok
returns-in-Ok g c = λ text is. (
  c.in_ok-converse.field-0,
  flushed _ text _ _ _ (g.O.Write.contents c.converse.new.writer) (g.O.Write.contents c.flush.new.self) c.in_ok-converse.field-0
      (piped _ _ _ _ (g.O.Write.contents c.converse.new.writer) c.new-book.result c.converse.new.book text (Ok c.in_ok-converse.field-0)
      (subst (IsOfficeOf text) (sym c.new-book.ensures.office) is)
      (ap (λ (s : MemoryShelf). (state_of s).content) c.new-book.ensures.shelf ∙ c.new.ensures.content)
      c.new-book.ensures.open_yet c.in_ok-converse.ensures.headline tt refl) c.flush.ensures.bytes,
)

pub returns : goal.returns
returns g c = λ text is. (
  Ok c.in_ok-converse.field-0,
  flushed _ text _ _ _ (g.O.Write.contents c.converse.new.writer) (g.O.Write.contents c.flush.new.self) c.in_ok-converse.field-0
      (piped _ _ _ _ (g.O.Write.contents c.converse.new.writer) c.new-book.result c.converse.new.book text (Ok c.in_ok-converse.field-0)
      (subst (IsOfficeOf text) (sym c.new-book.ensures.office) is)
      (ap (λ (s : MemoryShelf). (state_of s).content) c.new-book.ensures.shelf ∙ c.new.ensures.content)
      c.new-book.ensures.open_yet c.in_ok-converse.ensures.headline tt refl) c.flush.ensures.bytes,
)
