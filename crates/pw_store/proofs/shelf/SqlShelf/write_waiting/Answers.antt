use Rattle.std.proofs.Common.{ap, ◌∙◌}
use Rattle.sqlite.specs.Held.{state}
use Rattle.arrayvec.specs.ArrayVec.{ArrayVec}
use Rattle.pw_store.specs.Kept.{written_of}
use Rattle.pw_store.specs.declared.waiting.WaitingPoint.{WaitingPoint}
use Rattle.pw_store.proofs.Waited.{written_out}
use Rattle.pw_store.proofs.shelf.SqlShelf.write_waiting.Goals as goal

pub returns-clause-content : goal.returns-clause-content
returns-clause-content g c clean =
    let store = g.S.Store in
    let old = c.args.self.now in
    let new = c.write_points.new.self in
    let items = λ (waiting : ArrayVec WaitingPoint). waiting.items in
    written_out c.write_points.result new.waiting.items c.as_slice.result.now old.waiting.items (written_of (state store new.conn) (state store new.base.value)) (written_of (state store old.conn) (state store old.base.value))
    (ap items c.write_points.ensures.waits ∙ c.take-waiting.ensures.after) (c.as_slice.ensures.value ∙ ap items c.take-waiting.ensures.value) (c.write_points.ensures.content clean)
