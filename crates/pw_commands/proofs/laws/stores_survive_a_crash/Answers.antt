use Rattle.std.proofs.Common.{sym, subst}
use Rattle.sqlite.specs.Held.{state}
use Rattle.sqlite.specs.State.{HasCleanDisk}
use Rattle.pw_tariff.specs.Office.{OfficeFile, office_of}
use Rattle.pw_tariff.specs.Text.{IsOfficeOf}
use Rattle.pw_store.specs.OpenStore.{held_in}
use Rattle.pw_store.specs.Left.{IsOfText}
use Rattle.pw_store.proofs.OneOffice.{opened-found, opened-true}
use Rattle.pw_commands.proofs.Crashed.{holds-whole, left-behind}
use Rattle.pw_commands.proofs.laws.stores_survive_a_crash.Goals as goal

pub post_in_turn-left-requires-clause-truth : goal.post_in_turn-left-requires-clause-truth
post_in_turn-left-requires-clause-truth g c = λ clean. opened-true c.args.text.now c.args.office _ c.requires.office (c.in-Ok.ensures.truth clean)

pub returns-in-Ok-clause-refused : goal.returns-in-Ok-clause-refused
returns-in-Ok-clause-refused g c = λ it.
    let text = c.args.text.now in
    let of_text = subst (λ opened. (other : OfficeFile) × IsOfficeOf text other × IsOfText (office_of other) text (state g.S.Store opened).now.trees)
    (sym c.post_in_turn-left.ensures.opened) (c.in-Ok.ensures.opened (c.post_in_turn-left.ensures.clean it.clean)) in
    c.left_is_opened_again-again.ensures.refused
    (left-behind text c.args.office c.requires.office (held_in g.S.Store c.in-Ok.shelf) c.post_in_turn-left.new.uploads (state g.S.Store c.post_in_turn-left.result.conn) (state g.S.Store c.post_in_turn-left.result.opened.value) (state g.T.Store c.args.found)
    (c.post_in_turn-left.ensures.left it.clean) it of_text)

pub returns-in-Ok-clause-content : goal.returns-in-Ok-clause-content
returns-in-Ok-clause-content g c = λ it.
    let text = c.args.text.now in
    let before = held_in g.S.Store c.in-Ok.shelf in
    let uploads = c.post_in_turn-left.new.uploads in
    let first = c.post_in_turn-left.ensures.clean it.clean in
    let of_text = subst (λ opened. (other : OfficeFile) × IsOfficeOf text other × IsOfText (office_of other) text (state g.S.Store opened).now.trees)
    (sym c.post_in_turn-left.ensures.opened) (c.in-Ok.ensures.opened first) in
    let left = c.post_in_turn-left.ensures.left it.clean in
    holds-whole text c.args.office c.requires.office before uploads (state g.S.Store c.post_in_turn-left.result.conn) (state g.S.Store c.post_in_turn-left.result.opened.value) (state g.T.Store c.args.found) left it
    (state g.S.Store c.args.connection).committed c.left_is_opened_again-again.result
    (λ s. HasCleanDisk (state g.T.Store s.conn)) (λ s. held_in g.T.Store s)
    (opened-found text c.args.office (state g.S.Store c.args.connection).committed _ c.requires.office (c.in-Ok.ensures.content first))
    (c.left_is_opened_again-again.ensures.content
    (left-behind text c.args.office c.requires.office before uploads (state g.S.Store c.post_in_turn-left.result.conn) (state g.S.Store c.post_in_turn-left.result.opened.value) (state g.T.Store c.args.found) left it of_text))
