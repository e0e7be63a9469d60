use Rattle.std.proofs.Common.{refl}
use Rattle.sqlite.specs.Held.{state}
use Rattle.pw_schema.proofs.Outcomes.{early}
use Rattle.pw_store.proofs.Counted.{counted_failed, counted_same}
use Rattle.pw_store.proofs.Keeping.{failed_same, left_no_more}
use Rattle.pw_store.proofs.LeftStores.{keeps_failed, keeps_same}
use Rattle.pw_store.proofs.calls.SqlShelfShelf.point_before.Goals as goal

pub returns-in-Err-clause-asked : goal.returns-in-Err-clause-asked
returns-in-Err-clause-asked g c =
    let self = c.args.self.now in
    let old = state g.S.Store self.conn in
    let new = state g.S.Store c.nearest-before.new.conn in
    record {
      same = λ clean. tt;
      failed = λ clean none. failed_same self.waiting.items old new (state g.S.Store self.base.value) self.begun (g.met.S.Store.shut_if_dirty self.conn.store) self.since self.idle (c.in-Err.ensures.asks.failed clean) none;
      tally = c.tick-in-Err.ensures;
      kept = record {
        upload = refl;
        counts = record { failures = c.fault_of_ask.ensures; failed_abandons = refl };
        left = left_no_more old new c.in-Err.ensures.asks.crash;
        clean = early old new c.in-Err.ensures.asks.crash;
        store = refl;
      };
    }

pub invariant_of-self-clause-keeps : goal.invariant_of-self-clause-keeps
invariant_of-self-clause-keeps g c =
    let self = c.args.self.now in
    keeps_same (state g.S.Store self.conn) (state g.S.Store c.nearest-before.new.conn) (state g.S.Store self.opened.value) self.keeps c.in-Ok.ensures.asks.crash c.in-Ok.ensures.asks.same

pub invariant_of-self-in-Err-clause-keeps : goal.invariant_of-self-in-Err-clause-keeps
invariant_of-self-in-Err-clause-keeps g c =
    let self = c.args.self.now in
    keeps_failed (state g.S.Store self.conn) (state g.S.Store c.nearest-before.new.conn) (state g.S.Store self.opened.value) self.keeps c.in-Err.ensures.asks.crash c.in-Err.ensures.asks.failed

pub invariant_of-self-in-Err-clause-now_known : goal.invariant_of-self-in-Err-clause-now_known
invariant_of-self-in-Err-clause-now_known g c =
    let self = c.args.self.now in
    counted_failed (state g.S.Store self.conn) (state g.S.Store c.nearest-before.new.conn) self.within self.frontier self.now_known c.in-Err.ensures.asks.crash c.in-Err.ensures.asks.failed

pub invariant_of-self-clause-now_known : goal.invariant_of-self-clause-now_known
invariant_of-self-clause-now_known g c =
    let self = c.args.self.now in
    counted_same (state g.S.Store self.conn) (state g.S.Store c.nearest-before.new.conn) self.within self.frontier self.now_known c.in-Ok.ensures.asks.crash c.in-Ok.ensures.asks.same
