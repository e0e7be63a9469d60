use Rattle.std.proofs.Common.{ap, ◌∙◌}
use Rattle.sqlite.specs.Held.{state}
use Rattle.pw_store.specs.Kept.{written_of}
use Rattle.pw_store.specs.Waiting.{with_waiting}
use Rattle.pw_store.proofs.Keeping.{held_open, not_begun}
use Rattle.pw_store.proofs.Waited.{with_none}
use Rattle.pw_store.proofs.laws.store_is_its_tables.Goals as goal

pub returns-clause-content : goal.returns-clause-content
returns-clause-content g c live =
    let shelf = c.args.shelf in
    ap (with_waiting shelf.waiting.items) (held_open (state g.S.Store shelf.conn) (state g.S.Store shelf.base.value) live)

pub returns-clause-idle : goal.returns-clause-idle
returns-clause-idle g c live none =
    let shelf = c.args.shelf in
    with_none shelf.waiting.items (written_of (state g.S.Store shelf.conn) (state g.S.Store shelf.base.value)) (shelf.none_waits (not_begun shelf.begun _ none))
    ∙ held_open (state g.S.Store shelf.conn) (state g.S.Store shelf.base.value) live
