use Rattle.std.proofs.Common.{Ok, Err, ap, refl, ◌∙◌, Some, None, arith}
use Rattle.std.proofs.lemmas.Result.{err_from_is_err_and}
use Rattle.pw_model.specs.Shelf.{ShelfContent}
use Rattle.pw_shelf.specs.Changes.{with_point}
use Rattle.pw_store.proofs.Again.{point_again, set_any, set_none}
use Rattle.pw_store.proofs.Onward.{on_failed, on_told, on_then}
use Rattle.pw_store.proofs.shelf.SqlShelf.write_point.Goals as goal

pub returns-then-branch-gt0-clause-content : goal.returns-then-branch-gt0-clause-content
returns-then-branch-gt0-clause-content g c clean =
    let some = c.if-branch-gt0.true in
    set_any c.in_ok-change.field-0 _ _ _ (omega (arith, some)) (c.in_ok-change.ensures.content clean)

pub returns-then-branch-gt0-2-clause-content : goal.returns-then-branch-gt0-2-clause-content
returns-then-branch-gt0-2-clause-content g c clean =
    let none = c.if-branch-gt0.false in
    let some = c.if-branch-gt0-2.true in
    let taken = c.change-3.ensures.keeps_else.clean clean in
    let put = set_any c.in_ok-change-3.field-0 _ _ _ (omega (arith, some)) (c.in_ok-change-3.ensures.content clean) in
    let same = set_none c.in_ok-change.field-0 _ _ _ (omega (arith, none)) (c.in_ok-change.ensures.content (c.change-2.ensures.keeps_else.clean taken)) in
    put ∙ ap (λ (held : ShelfContent). with_point held c.args.point.meter.0 c.args.point.register c.args.point.instant (Some c.args.point.wh)) (c.in_ok-change-2.ensures.content taken)
    ∙ point_again _ c.args.point.meter.0 c.args.point.register c.args.point.instant None (Some c.args.point.wh)
    ∙ ap (λ (held : ShelfContent). with_point held c.args.point.meter.0 c.args.point.register c.args.point.instant (Some c.args.point.wh)) same

pub returns-in_err-change-2-clause-keeps_else : goal.returns-in_err-change-2-clause-keeps_else
returns-in_err-change-2-clause-keeps_else g c =
    let p = err_from_is_err_and c.from_residual-in_err-change-2.result c.from_residual-in_err-change-2.ensures.1 in
    on_failed g.S.Store _ c.in_err-change-2.field-0.0 p.0 c.from_residual-in_err-change-2.result _ _ p.1 p.2 (on_then g.S.Store c.in_ok-change.field-0 (Err c.in_err-change-2.field-0.0) _ _ _ c.in_ok-change.ensures.keeps_else c.in_err-change-2.ensures.keeps_else)

pub returns-in_err-change-3-clause-keeps_else : goal.returns-in_err-change-3-clause-keeps_else
returns-in_err-change-3-clause-keeps_else g c =
    let p = err_from_is_err_and c.from_residual-in_err-change-3.result c.from_residual-in_err-change-3.ensures.1 in
    on_failed g.S.Store _ c.in_err-change-3.field-0.0 p.0 c.from_residual-in_err-change-3.result _ _ p.1 p.2 (on_then g.S.Store c.in_ok-change-2.field-0 (Err c.in_err-change-3.field-0.0) _ _ _ (on_then g.S.Store c.in_ok-change.field-0 (Ok c.in_ok-change-2.field-0) _ _ _ c.in_ok-change.ensures.keeps_else c.in_ok-change-2.ensures.keeps_else) c.in_err-change-3.ensures.keeps_else)

pub returns-then-branch-gt0-2-clause-keeps_else : goal.returns-then-branch-gt0-2-clause-keeps_else
returns-then-branch-gt0-2-clause-keeps_else g c = on_told g.S.Store (Ok c.in_ok-change-3.field-0) (Ok tt) _ _ refl (on_then g.S.Store c.in_ok-change-2.field-0 (Ok c.in_ok-change-3.field-0) _ _ _ (on_then g.S.Store c.in_ok-change.field-0 (Ok c.in_ok-change-2.field-0) _ _ _ c.in_ok-change.ensures.keeps_else c.in_ok-change-2.ensures.keeps_else) c.in_ok-change-3.ensures.keeps_else)

pub returns-else-branch-gt0-2-clause-keeps_else : goal.returns-else-branch-gt0-2-clause-keeps_else
returns-else-branch-gt0-2-clause-keeps_else g c =
    let all = on_then g.S.Store c.in_ok-change-2.field-0 (Ok c.in_ok-change-3.field-0) _ _ _ (on_then g.S.Store c.in_ok-change.field-0 (Ok c.in_ok-change-2.field-0) _ _ _ c.in_ok-change.ensures.keeps_else c.in_ok-change-2.ensures.keeps_else) c.in_ok-change-3.ensures.keeps_else in
    record {
      begun = all.begun;
      base = all.base;
      opened = all.opened;
      failures = (let one = all.failures in let two = c.device_fault.ensures.counted in let is = c.device_fault.ensures.device in rw is (omega (arith, one, two)));
      abandons = all.abandons;
      tally = all.tally;
      left = all.left;
      clean = all.clean;
    }
