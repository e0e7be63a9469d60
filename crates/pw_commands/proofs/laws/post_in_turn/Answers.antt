use Rattle.std.proofs.Common.{ap, sym, subst, ◌∙◌}
use Rattle.sqlite.specs.Held.{state}
use Rattle.sqlite.specs.State.{HasCleanDisk}
use Rattle.pw_tariff.specs.Office.{office_of}
use Rattle.pw_model.specs.Shelf.{ShelfContent}
use Rattle.pw_shelf.specs.Left.{LeavesOnly}
use Rattle.pw_store.specs.Kept.{left_of}
use Rattle.pw_store.specs.OpenStore.{held_in}
use Rattle.pw_book.specs.Crashes.{IsLeftWhole}
use Rattle.pw_commands.proofs.laws.post_in_turn.Goals as goal

pub uploads_survive_a_crash-requires-clause-settled :
    goal.uploads_survive_a_crash-requires-clause-settled
uploads_survive_a_crash-requires-clause-settled g c =
    subst (λ shelf. HasCleanDisk (state g.S.Store shelf.conn) → LeavesOnly (held_in g.S.Store shelf) (left_of (state g.S.Store shelf.conn)))
    (sym c.new-book.ensures.shelf) c.requires.settled

pub returns-clause-clean : goal.returns-clause-clean
returns-clause-clean g c = λ clean.
    subst (λ shelf. HasCleanDisk (state g.S.Store shelf.conn)) c.new-book.ensures.shelf
    (c.uploads_survive_a_crash.ensures.cleanness (subst (λ shelf. HasCleanDisk (state g.S.Store shelf.conn)) c.into_shelf.ensures clean))

pub returns-clause-opened : goal.returns-clause-opened
returns-clause-opened g c = ap (λ shelf. shelf.opened.value) c.into_shelf.ensures ∙ c.uploads_survive_a_crash.ensures.store ∙ ap (λ shelf. shelf.opened.value) c.new-book.ensures.shelf

pub returns-clause-left : goal.returns-clause-left
returns-clause-left g c = λ clean.
    let uploads = c.uploads_survive_a_crash.new.uploads in
    let posted = c.uploads_survive_a_crash.ensures.left (subst (λ shelf. HasCleanDisk (state g.S.Store shelf.conn)) c.into_shelf.ensures clean) in
    subst (λ shelf. (k : ShelfContent) → left_of (state g.S.Store c.into_shelf.result.conn) k → IsLeftWhole (office_of c.args.office) (held_in g.S.Store shelf).records uploads k) c.new-book.ensures.shelf
    (subst (λ office. (k : ShelfContent) → left_of (state g.S.Store c.into_shelf.result.conn) k → IsLeftWhole (office_of office) (held_in g.S.Store c.new-book.result.shelf).records uploads k) c.new-book.ensures.office
    (subst (λ shelf. (k : ShelfContent) → left_of (state g.S.Store shelf.conn) k → IsLeftWhole (office_of c.new-book.result.office) (held_in g.S.Store c.new-book.result.shelf).records uploads k) (sym c.into_shelf.ensures) posted))
