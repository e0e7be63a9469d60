use Rattle.std.proofs.Common.{ap, rules}
use Rattle.sqlite.specs.Held.{state}
use Rattle.pw_schema.proofs.Outcomes.{early}
use Rattle.pw_store.proofs.Counted.{counted_committed, counted_failed, counted_settled, counted_snapshot}
use Rattle.pw_store.proofs.Inside.{mode_is}
use Rattle.pw_store.proofs.Keeping.{left_or_held, left_stays}
use Rattle.pw_store.proofs.LeftStores.{keeps_committed, keeps_uncommitted}
use Rattle.pw_store.proofs.shelf.SqlShelf.commit_written.Goals as goal

pub returns-in-Err-clause-left : goal.returns-in-Err-clause-left
returns-in-Err-clause-left g c clean =
    let self = c.args.self.now in
    let before = early (state g.S.Store self.conn) (state g.S.Store c.commit.new.conn) c.in-Err.ensures.crash clean in
    left_or_held (state g.S.Store self.conn) (state g.S.Store c.commit.new.conn) (state g.S.Store self.base.value) (self.inside before (mode_is _ _ c.if-is_autocommit.false c.is_autocommit.ensures.value)) c.in-Err.ensures.crash clean

pub invariant_of-self-in-Ok-clause-keeps : goal.invariant_of-self-in-Ok-clause-keeps
invariant_of-self-in-Ok-clause-keeps g c =
    let self = c.args.self.now in
    keeps_committed (state g.S.Store self.conn) (state g.S.Store c.commit.new.conn) (state g.S.Store self.opened.value) self.keeps c.in-Ok.ensures.crash self.now c.in-Ok.ensures.done

pub invariant_of-self-in-Err-clause-keeps : goal.invariant_of-self-in-Err-clause-keeps
invariant_of-self-in-Err-clause-keeps g c =
    let self = c.args.self.now in
    keeps_uncommitted (state g.S.Store self.conn) (state g.S.Store c.commit.new.conn) (state g.S.Store self.opened.value) self.keeps c.in-Err.ensures.crash (λ before. self.inside before (mode_is _ _ c.if-is_autocommit.false c.is_autocommit.ensures.value)) self.now c.in-Err.ensures.failed

pub returns-in-Ok-clause-stays : goal.returns-in-Ok-clause-stays
returns-in-Ok-clause-stays g c clean =
    let self = c.args.self.now in
    left_stays (state g.S.Store self.conn) (state g.S.Store c.commit.new.conn) (state g.S.Store self.base.value) (c.in-Ok.ensures.done clean).was_open (c.in-Ok.ensures.stays clean)

pub returns-in-Ok-clause-store : goal.returns-in-Ok-clause-store
returns-in-Ok-clause-store g c = search rules depth 0 fits 100

pub invariant_of-self-in-Ok-clause-base_counted : goal.invariant_of-self-in-Ok-clause-base_counted
invariant_of-self-in-Ok-clause-base_counted g c clean =
    let self = c.args.self.now in
    counted_snapshot (state g.S.Store c.commit.new.conn) (state g.S.Store c.of.result.value) self.within (ap (state g.S.Store) c.of.ensures)
    (counted_committed (state g.S.Store self.conn) (state g.S.Store c.commit.new.conn) self.within self.frontier self.now_known (mode_is _ _ c.if-is_autocommit.false c.is_autocommit.ensures.value) c.in-Ok.ensures.crash c.in-Ok.ensures.done) clean

pub invariant_of-self-in-Err-clause-now_known : goal.invariant_of-self-in-Err-clause-now_known
invariant_of-self-in-Err-clause-now_known g c =
    let self = c.args.self.now in
    counted_failed (state g.S.Store self.conn) (state g.S.Store c.commit.new.conn) self.within self.frontier self.now_known c.in-Err.ensures.crash c.in-Err.ensures.failed

pub invariant_of-self-in-Ok-clause-since : goal.invariant_of-self-in-Ok-clause-since
invariant_of-self-in-Ok-clause-since g c = search rules depth 0 fits 100

pub invariant_of-self-in-Err-clause-base_counted : goal.invariant_of-self-in-Err-clause-base_counted
invariant_of-self-in-Err-clause-base_counted g c = search rules depth 0 fits 100

pub invariant_of-self-in-Ok-clause-now_known : goal.invariant_of-self-in-Ok-clause-now_known
invariant_of-self-in-Ok-clause-now_known g c =
    let self = c.args.self.now in
    counted_settled (state g.S.Store self.conn) (state g.S.Store c.commit.new.conn) self.within self.frontier self.now_known c.in-Ok.ensures.crash c.in-Ok.ensures.done
