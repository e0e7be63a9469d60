use Rattle.std.proofs.Common.{ap}
use Rattle.sqlite.specs.Held.{state}
use Rattle.pw_store.proofs.Counted.{counted_standing}
use Rattle.pw_store.proofs.LeftStores.{standing_keeps}
use Rattle.pw_store.proofs.shelf.SqlShelf.over.Goals as goal

pub invariant_of-result-clause-keeps : goal.invariant_of-result-clause-keeps
invariant_of-result-clause-keeps g c =
    standing_keeps (state g.S.Store c.args.connection) (state g.S.Store c.of-opened.result.value) (ap (state g.S.Store) c.of-opened.ensures) c.schema.ensures.live c.requires.standing (λ db live may. g.met.S.Store.settled c.args.connection.store db live may)

pub invariant_of-result-clause-base_counted : goal.invariant_of-result-clause-base_counted
invariant_of-result-clause-base_counted g c =
    counted_standing (state g.S.Store c.args.connection) (state g.S.Store c.of-base.result.value) c.args.held (ap (state g.S.Store) c.of-base.ensures) c.requires.standing c.requires.counted
