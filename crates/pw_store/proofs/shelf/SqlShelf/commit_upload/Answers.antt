use Rattle.std.proofs.Common.{inl, subst, ◌∙◌}
use Rattle.sqlite.specs.Held.{state}
use Rattle.pw_model.specs.Shelf.{ShelfContent}
use Rattle.pw_shelf.specs.Left.{LeavesOnly}
use Rattle.pw_store.specs.Content.{content_of}
use Rattle.pw_store.specs.Kept.{begun_with, left_of, written_of}
use Rattle.pw_store.specs.OpenStore.{held_in}
use Rattle.pw_store.proofs.Ending.{held_written, leaves_held, none_begun, on_err, on_ok, with_err, written_held}
use Rattle.pw_store.proofs.shelf.SqlShelf.commit_upload.Goals as goal

pub returns-clause-ended : goal.returns-clause-ended
returns-clause-ended g c =
    let new = c.commit_written.new.self in
    on_ok c.commit_written.result (none_begun new.begun (content_of (state g.S.Store new.base.value).committed.trees)) c.commit_written.ensures.ended

pub returns-clause-begun : goal.returns-clause-begun
returns-clause-begun g c =
    let kept = c.in_ok-write_waiting.ensures.keeps_else in
    on_err c.commit_written.result (λ same i. begun_with ((same.0 ∙ kept.begun) i) (state g.S.Store ((same.1 ∙ kept.base) i))) c.commit_written.ensures.begun

pub returns-clause-same : goal.returns-clause-same
returns-clause-same g c clean =
    let store = g.S.Store in
    let now = c.write_waiting.new.self in
    let new = c.commit_written.new.self in
    let it = c.in_ok-write_waiting.ensures in
    let written = written_of (state store now.conn) (state store now.base.value) in
    let held = held_in store c.args.self.now in
    let is = written_held now.waiting.items written held it.none (it.content (c.commit_written.ensures.cleanness clean)) in
    on_ok c.commit_written.result (λ same. held_written new.waiting now.waiting (written_of (state store new.conn) (state store new.base.value)) written held c.commit_written.ensures.waits it.none same is) (c.commit_written.ensures.same clean)

pub returns-clause-kept : goal.returns-clause-kept
returns-clause-kept g c clean =
    let store = g.S.Store in
    let now = c.write_waiting.new.self in
    let it = c.in_ok-write_waiting.ensures in
    let is = written_held now.waiting.items (written_of (state store now.conn) (state store now.base.value)) (held_in store c.args.self.now) it.none (it.content (c.commit_written.ensures.cleanness clean)) in
    on_ok c.commit_written.result (subst (λ (held : ShelfContent). LeavesOnly held (left_of (state store c.commit_written.new.self.conn))) is) (c.commit_written.ensures.kept clean)

pub returns-clause-stays : goal.returns-clause-stays
returns-clause-stays g c clean =
    let store = g.S.Store in
    let now = c.write_waiting.new.self in
    let it = c.in_ok-write_waiting.ensures in
    let is = written_held now.waiting.items (written_of (state store now.conn) (state store now.base.value)) (held_in store c.args.self.now) it.none (it.content (c.commit_written.ensures.cleanness clean)) in
    on_ok c.commit_written.result (subst (left_of (state store c.commit_written.new.self.conn)) is) (c.commit_written.ensures.stays clean)

pub returns-clause-left : goal.returns-clause-left
returns-clause-left g c clean =
    let store = g.S.Store in
    let now = c.write_waiting.new.self in
    let it = c.in_ok-write_waiting.ensures in
    let before = c.commit_written.ensures.cleanness clean in
    let written = written_of (state store now.conn) (state store now.base.value) in
    let held = held_in store c.args.self.now in
    let is = written_held now.waiting.items written held it.none (it.content before) in
    on_err c.commit_written.result (leaves_held written held (left_of (state store c.args.self.now.conn)) (left_of (state store now.conn)) (left_of (state store c.commit_written.new.self.conn)) is (it.keeps_else.left before)) (c.commit_written.ensures.left clean)

pub returns-in_err-write_waiting-clause-left : goal.returns-in_err-write_waiting-clause-left
returns-in_err-write_waiting-clause-left g c clean = with_err c.from_residual.result (λ k may. inl (c.in_err-write_waiting.ensures.keeps_else.left clean k may))
