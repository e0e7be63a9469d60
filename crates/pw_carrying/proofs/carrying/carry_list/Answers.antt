use Rattle.std.proofs.Common.{List, subst, sym}
use Rattle.std.proofs.lemmas.Result.{err_from_is_err_and}
use Rattle.pw_model.specs.declared.records.Entry.{Entry}
use Rattle.pw_model.specs.Kinds.{ListsHeld}
use Rattle.pw_book.specs.Faults.{book_fault}
use Rattle.pw_carrying.specs.inner.Stages.{IsOfList}
use Rattle.pw_carrying.proofs.Listing.{carries-unread, list-given}
use Rattle.pw_carrying.proofs.carrying.carry_list.Goals as goal

pub returns-in_err-records-clause-carried : goal.returns-in_err-records-clause-carried
returns-in_err-records-clause-carried g c = λ k t.
    let p = err_from_is_err_and c.from_residual.result c.from_residual.ensures.1 in
    carries-unread (book_fault c.in_err-records.field-0.0) p.0 c.from_residual.result c.args.basis.now.office.now c.args.into.now.office (g.S.Shelf.state c.args.shelf.now).content.records _ _ (g.T.Shelf.state c.args.into.now.shelf).content.records
    c.args.waiting.now.entries.items c.args.waiting.now.entries.items p.1 p.2

pub returns-clause-carried : goal.returns-clause-carried
returns-clause-carried g c = λ k t.
    let records = (g.S.Shelf.state c.args.shelf.now).content.records in
    let L : List Entry → Type 0 = λ xs. ListsHeld (IsOfList c.args.list) records xs in
    list-given c.give_all.result c.args.basis.now.office.now c.args.into.now.office records c.args.list c.deref.result.now (g.T.Shelf.state c.args.into.now.shelf).content.records c.args.waiting.now.entries.items
    (g.T.Shelf.state c.give_all.new.into.shelf).content.records c.give_all.new.waiting.entries.items c.requires.list (λ of. subst L (sym c.deref.ensures.value) (c.in_ok-records.ensures.rows k of)) (c.give_all.ensures.gives t)
