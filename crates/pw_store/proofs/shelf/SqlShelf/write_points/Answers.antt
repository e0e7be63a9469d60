use Rattle.std.proofs.Common.{ap, ◌∙◌, arith}
use Rattle.sqlite.specs.Held.{state}
use Rattle.pw_store.specs.Kept.{written_of}
use Rattle.pw_store.specs.Waiting.{with_waiting}
use Rattle.pw_store.proofs.Again.{set_any, set_none}
use Rattle.pw_store.proofs.Onward.{on_then}
use Rattle.pw_store.proofs.Waited.{four_of, written_if}
use Rattle.pw_store.proofs.shelf.SqlShelf.write_points.Goals as goal

pub returns-then-branch-gt0-clause-content : goal.returns-then-branch-gt0-clause-content
returns-then-branch-gt0-clause-content g c clean =
    let some = c.if-branch-gt0.true in
    let old = written_of (state g.S.Store c.args.self.now.conn) (state g.S.Store c.args.self.now.base.value) in
    set_any c.in_ok-change.field-0 _ _ _ (omega (arith, some)) (c.in_ok-change.ensures.content clean)
    ∙ ap (λ points. with_waiting points old) (four_of c.args.points.now c.first-item.result c.second-item.result c.third-item.result c.fourth-item.result c.in-len4.len_at_least c.in-len4.len_below c.first-item.is c.second-item.is c.third-item.is c.fourth-item.is)

pub returns-clause-content : goal.returns-clause-content
returns-clause-content g c clean =
    let none = c.if-branch-gt0.false in
    let before = c.write_each-2.ensures.keeps_else.clean clean in
    written_if c.write_each-2.result c.args.points.now _ _ _ (c.write_each-2.ensures.content clean) (set_none c.in_ok-change.field-0 _ _ _ (omega (arith, none)) (c.in_ok-change.ensures.content before))

pub returns-clause-keeps_else : goal.returns-clause-keeps_else
returns-clause-keeps_else g c = on_then g.S.Store c.in_ok-change.field-0 c.write_each-2.result _ _ _ c.in_ok-change.ensures.keeps_else c.write_each-2.ensures.keeps_else
