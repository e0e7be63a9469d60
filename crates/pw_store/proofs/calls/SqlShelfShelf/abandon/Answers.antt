use Rattle.sqlite.specs.Held.{state}
use Rattle.pw_store.proofs.Counted.{counted_failed}
use Rattle.pw_store.proofs.LeftStores.{keeps_failed, keeps_undone}
use Rattle.pw_store.proofs.calls.SqlShelfShelf.abandon.Goals as goal

pub invariant_of-self-in-Ok-clause-keeps : goal.invariant_of-self-in-Ok-clause-keeps
invariant_of-self-in-Ok-clause-keeps g c =
    let self = c.args.self.now in
    keeps_undone (state g.S.Store self.conn) (state g.S.Store c.roll_back.new.conn) (state g.S.Store self.opened.value) self.keeps c.in-Ok.ensures.writes.crash c.in-Ok.ensures.undone

pub invariant_of-self-in-Err-clause-keeps : goal.invariant_of-self-in-Err-clause-keeps
invariant_of-self-in-Err-clause-keeps g c =
    let self = c.args.self.now in
    keeps_failed (state g.S.Store self.conn) (state g.S.Store c.roll_back.new.conn) (state g.S.Store self.opened.value) self.keeps c.in-Err.ensures.writes.crash c.in-Err.ensures.writes.failed

pub invariant_of-self-in-Err-clause-now_known : goal.invariant_of-self-in-Err-clause-now_known
invariant_of-self-in-Err-clause-now_known g c =
    let self = c.args.self.now in
    counted_failed (state g.S.Store self.conn) (state g.S.Store c.roll_back.new.conn) self.within self.frontier self.now_known c.in-Err.ensures.writes.crash c.in-Err.ensures.writes.failed
