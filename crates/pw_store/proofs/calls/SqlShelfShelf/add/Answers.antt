use Rattle.std.proofs.Common.{◌≡◌, ◌+◌, ◌∙◌, arith}
use Rattle.sqlite.specs.Held.{state}
use Rattle.pw_schema.proofs.Outcomes.{early}
use Rattle.sqlite.specs.State.{HasCleanDisk}
use Rattle.pw_shelf.specs.State.{IsWithRecord}
use Rattle.pw_store.specs.Content.{content_of, records_of}
use Rattle.pw_store.proofs.Waited.{record_over}
use Rattle.pw_store.proofs.Counted.{counted_added, counted_failed}
use Rattle.pw_store.proofs.Inside.{mode_is}
use Rattle.pw_store.proofs.Keeping.{with_held}
use Rattle.pw_store.proofs.LeftStores.{keeps_failed, keeps_written}
use Rattle.pw_store.proofs.calls.SqlShelfShelf.add.Goals as goal

pub returns-in-Ok-true-clause-added : goal.returns-in-Ok-true-clause-added
returns-in-Ok-true-clause-added g c clean =
    let self = c.args.self.now in
    let shown = c.in-Ok-true.ensures.inside clean c.in-Ok-true.field-0-test in
    record_over self.waiting.items c.args.entry.now _ _
    (with_held (state g.S.Store self.conn) (state g.S.Store c.add_entry.new.conn) (state g.S.Store self.base.value) c.args.entry.now shown.was_open shown.is_open (c.in-Ok-true.ensures.added clean c.in-Ok-true.field-0-test))

pub invariant_of-self-in-Ok-true-clause-keeps : goal.invariant_of-self-in-Ok-true-clause-keeps
invariant_of-self-in-Ok-true-clause-keeps g c =
    let self = c.args.self.now in
    keeps_written (state g.S.Store self.conn) (state g.S.Store c.add_entry.new.conn) (state g.S.Store self.opened.value) self.keeps c.in-Ok-true.ensures.writes.crash (λ clean. c.in-Ok-true.ensures.inside clean c.in-Ok-true.field-0-test) c.in-Ok-true.ensures.keeps

pub invariant_of-self-in-Err-clause-keeps : goal.invariant_of-self-in-Err-clause-keeps
invariant_of-self-in-Err-clause-keeps g c =
    let self = c.args.self.now in
    keeps_failed (state g.S.Store self.conn) (state g.S.Store c.add_entry.new.conn) (state g.S.Store self.opened.value) self.keeps c.in-Err.ensures.writes.crash c.in-Err.ensures.writes.failed

pub invariant_of-self-in-Ok-true-clause-now_known : goal.invariant_of-self-in-Ok-true-clause-now_known
invariant_of-self-in-Ok-true-clause-now_known g c clean =
    let self = c.args.self.now in
    let old = state g.S.Store self.conn in
    let new = state g.S.Store c.add_entry.new.conn in
    let inside = mode_is _ _ c.if-is_autocommit.false c.is_autocommit.ensures.value in
    let added : HasCleanDisk new → IsWithRecord (content_of old.now.trees) c.args.entry.now (content_of new.now.trees) = λ clean. c.in-Ok-true.ensures.added clean c.in-Ok-true.field-0-test in
    let it = counted_added old new (state g.S.Store self.base.value) self.within c.args.entry.now self.frontier self.now_known inside self.inside c.in-Ok-true.ensures.writes.crash c.requires.room added clean in
    let few = it.1 in
    let told : self.within + 1 ≡ c.saturating_add-self.result = omega (arith, few, c.saturating_add-self.ensures) in
    let before = early old new c.in-Ok-true.ensures.writes.crash clean in (
      λ mode. it.0 ∙ told,
      λ live. c.behind-self.ensures (records_of old.now.trees) (records_of new.now.trees) (added clean).records ((self.now_known before).1 (self.inside before inside)),
    )

pub invariant_of-self-in-Err-clause-now_known : goal.invariant_of-self-in-Err-clause-now_known
invariant_of-self-in-Err-clause-now_known g c =
    let self = c.args.self.now in
    counted_failed (state g.S.Store self.conn) (state g.S.Store c.add_entry.new.conn) self.within self.frontier self.now_known c.in-Err.ensures.writes.crash c.in-Err.ensures.writes.failed
