use Rattle.std.proofs.Common.{rules}
use Rattle.sqlite.specs.Held.{state}
use Rattle.pw_store.specs.inner.Changing.{changed}
use Rattle.pw_store.proofs.Counted.{counted_changed, counted_failed}
use Rattle.pw_store.proofs.Inside.{mode_is}
use Rattle.pw_store.proofs.Keeping.{held_made}
use Rattle.pw_store.proofs.LeftStores.{keeps_failed, keeps_written}
use Rattle.pw_store.proofs.shelf.SqlShelf.change.Goals as goal

pub invariant_of-self-in-Ok-clause-keeps : goal.invariant_of-self-in-Ok-clause-keeps
invariant_of-self-in-Ok-clause-keeps g c =
    let self = c.args.self.now in
    keeps_written (state g.S.Store self.conn) (state g.S.Store c.make.new.conn) (state g.S.Store self.opened.value) self.keeps c.in-Ok.ensures.writes.crash (λ clean. (c.in-Ok.ensures.done clean).shows) (λ clean. (c.in-Ok.ensures.done clean).keeps)

pub invariant_of-self-in-Err-clause-keeps : goal.invariant_of-self-in-Err-clause-keeps
invariant_of-self-in-Err-clause-keeps g c =
    let self = c.args.self.now in
    keeps_failed (state g.S.Store self.conn) (state g.S.Store c.make.new.conn) (state g.S.Store self.opened.value) self.keeps c.in-Err.ensures.writes.crash c.in-Err.ensures.writes.failed

pub returns-in-Ok-clause-content : goal.returns-in-Ok-clause-content
returns-in-Ok-clause-content g c clean =
    let self = c.args.self.now in
    held_made (state g.S.Store self.conn) (state g.S.Store c.make.new.conn) (state g.S.Store self.base.value) (changed c.args.change c.in-Ok.rows) (c.in-Ok.ensures.done clean)

pub invariant_of-self-in-Err-clause-awake : goal.invariant_of-self-in-Err-clause-awake
invariant_of-self-in-Err-clause-awake g c = search rules depth 0 fits 100

pub make-requires-clause-inside : goal.make-requires-clause-inside
make-requires-clause-inside g c = search rules depth 0 fits 100

pub invariant_of-self-in-Ok-clause-now_known : goal.invariant_of-self-in-Ok-clause-now_known
invariant_of-self-in-Ok-clause-now_known g c =
    let self = c.args.self.now in
    counted_changed (state g.S.Store self.conn) (state g.S.Store c.make.new.conn) self.within c.args.change c.in-Ok.rows self.frontier self.now_known (mode_is _ _ c.if-is_autocommit.false c.is_autocommit.ensures.value) c.in-Ok.ensures.writes.crash c.in-Ok.ensures.done

pub invariant_of-self-in-Err-clause-now_known : goal.invariant_of-self-in-Err-clause-now_known
invariant_of-self-in-Err-clause-now_known g c =
    let self = c.args.self.now in
    counted_failed (state g.S.Store self.conn) (state g.S.Store c.make.new.conn) self.within self.frontier self.now_known c.in-Err.ensures.writes.crash c.in-Err.ensures.writes.failed
