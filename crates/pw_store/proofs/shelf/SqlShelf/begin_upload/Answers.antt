use Rattle.std.proofs.Common.{sym, ap, Some, ◌∙◌}
use Rattle.sqlite.specs.Held.{state}
use Rattle.pw_store.proofs.Keeping.{not_begun, idle_held, failed_same}
use Rattle.pw_store.specs.Kept.{written_of}
use Rattle.pw_store.proofs.Waited.{with_none}
use Rattle.pw_store.proofs.Counted.{counted_begun, counted_failed}
use Rattle.pw_store.proofs.LeftStores.{keeps_begun, keeps_failed}
use Rattle.pw_store.proofs.shelf.SqlShelf.begin_upload.Goals as goal

pub returns-in-Ok-clause-begun : goal.returns-in-Ok-clause-begun
returns-in-Ok-clause-begun g c =
    let self = c.args.self.now in
    let not = not_begun self.begun _ c.requires in
    let base = state g.S.Store self.base.value in
    ap (λ d. Some d) (sym (with_none self.waiting.items (written_of (state g.S.Store self.conn) base) (self.none_waits not)
    ∙ idle_held (state g.S.Store self.conn) base self.begun (g.met.S.Store.shut_if_dirty self.conn.store) self.since self.idle not))

pub returns-in-Err-clause-same : goal.returns-in-Err-clause-same
returns-in-Err-clause-same g c clean =
    let self = c.args.self.now in
    failed_same self.waiting.items (state g.S.Store self.conn) (state g.S.Store c.begin.new.conn) (state g.S.Store self.base.value) self.begun (g.met.S.Store.shut_if_dirty self.conn.store) self.since self.idle (c.in-Err.ensures.writes.failed clean) c.requires

pub invariant_of-self-clause-keeps : goal.invariant_of-self-clause-keeps
invariant_of-self-clause-keeps g c =
    let self = c.args.self.now in
    keeps_begun (state g.S.Store self.conn) (state g.S.Store c.begin.new.conn) (state g.S.Store self.opened.value) self.keeps c.in-Ok.ensures.writes.crash c.in-Ok.ensures.begun

pub invariant_of-self-in-Err-clause-keeps : goal.invariant_of-self-in-Err-clause-keeps
invariant_of-self-in-Err-clause-keeps g c =
    let self = c.args.self.now in
    keeps_failed (state g.S.Store self.conn) (state g.S.Store c.begin.new.conn) (state g.S.Store self.opened.value) self.keeps c.in-Err.ensures.writes.crash c.in-Err.ensures.writes.failed

pub invariant_of-self-clause-now_known : goal.invariant_of-self-clause-now_known
invariant_of-self-clause-now_known g c =
    let self = c.args.self.now in
    counted_begun (state g.S.Store self.conn) (state g.S.Store c.begin.new.conn) (state g.S.Store self.base.value) self.held self.within self.frontier self.begun self.base_counted self.now_known self.since self.idle (not_begun self.begun _ c.requires) c.in-Ok.ensures.writes.crash c.in-Ok.ensures.begun

pub invariant_of-self-in-Err-clause-now_known : goal.invariant_of-self-in-Err-clause-now_known
invariant_of-self-in-Err-clause-now_known g c =
    let self = c.args.self.now in
    counted_failed (state g.S.Store self.conn) (state g.S.Store c.begin.new.conn) self.within self.frontier self.now_known c.in-Err.ensures.writes.crash c.in-Err.ensures.writes.failed
