use Rattle.std.proofs.Common.{subst, sym}
use Rattle.sqlite.specs.Held.{state}
use Rattle.sqlite.specs.State.{HasCleanDisk}
use Rattle.pw_tariff.specs.Office.{office_of}
use Rattle.pw_store.specs.OpenStore.{held_in}
use Rattle.pw_commands.specs.Crashes.{WasHeld}
use Rattle.pw_store.proofs.OneOffice.{opened-found, opened-of-office, opened-true}
use Rattle.pw_commands.proofs.store.book_over.Goals as goal

pub new-requires-clause-of_office : goal.new-requires-clause-of_office
new-requires-clause-of_office g c = λ clean. opened-of-office c.args.text.now c.args.office _ c.requires.office (c.in_ok-shelf.ensures.of_office clean)

pub new-requires-clause-truth : goal.new-requires-clause-truth
new-requires-clause-truth g c = λ clean. opened-true c.args.text.now c.args.office _ c.requires.office (c.in_ok-shelf.ensures.truth clean)

pub returns-clause-content : goal.returns-clause-content
returns-clause-content g c =
    subst (λ shelf. HasCleanDisk (state g.S.Store shelf.conn) → HasCleanDisk (state g.S.Store c.args.connection) × WasHeld (office_of c.args.office) (state g.S.Store c.args.connection).committed (held_in g.S.Store shelf))
    (sym c.new.ensures.shelf) (λ clean. ((c.in_ok-shelf.ensures.was_open clean).0, opened-found c.args.text.now c.args.office (state g.S.Store c.args.connection).committed _ c.requires.office (c.in_ok-shelf.ensures.content clean)))
