use Rattle.std.proofs.Common.{Some, None}
use Rattle.sqlite.specs.Held.{state}
use Rattle.pw_store.specs.Kept.{written_of}
use Rattle.pw_store.proofs.Again.{start_if}
use Rattle.pw_store.proofs.Waited.{over_if}
use Rattle.pw_store.proofs.calls.SqlShelfShelf.start_put.Goals as goal

pub returns-clause-put : goal.returns-clause-put
returns-clause-put g c clean =
    let self = c.args.self.now in
    over_if c.replace.result _ _ _ _ c.replace.ensures.waits
    (start_if c.replace.result _ (written_of (state g.S.Store self.conn) (state g.S.Store self.base.value)) c.args.meter.0 c.args.start None (Some c.args.owner) (c.replace.ensures.content clean))
