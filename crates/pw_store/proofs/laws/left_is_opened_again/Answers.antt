use Rattle.sqlite.specs.Held.{state}
use Rattle.sqlite.specs.State.{HasCleanDisk}
use Rattle.pw_store.specs.OpenStore.{held_in}
use Rattle.pw_store.proofs.LeftOpening.{content_again, refused_again}
use Rattle.pw_store.proofs.laws.left_is_opened_again.Goals as goal

pub returns-clause-refused : goal.returns-clause-refused
returns-clause-refused g c it =
    let shelf = c.args.shelf.now in
    refused_again (state g.S.Store shelf.conn) (state g.S.Store shelf.opened.value) (state g.T.Store c.args.found) shelf.keeps c.args.office_text.now it (λ e. HasCleanDisk (state g.T.Store e.1)) (λ e. e.0) c.open.result c.open.ensures.cause

pub returns-clause-content : goal.returns-clause-content
returns-clause-content g c it =
    let shelf = c.args.shelf.now in
    content_again (state g.S.Store shelf.conn) (state g.S.Store shelf.opened.value) (state g.T.Store c.args.found) shelf.keeps c.args.office_text.now it (λ s. HasCleanDisk (state g.T.Store s.conn)) (λ s. held_in g.T.Store s) c.open.result c.open.ensures.content
