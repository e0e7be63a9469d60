use Rattle.std.proofs.Common.{Ok, Err, ap, refl, ◌∙◌, arith}
use Rattle.std.proofs.lemmas.Result.{err_from_is_err_and}
use Rattle.pw_shelf.specs.Changes.{with_total}
use Rattle.pw_store.proofs.Again.{set_any, set_none}
use Rattle.pw_store.proofs.Onward.{on_failed, on_told, on_then}
use Rattle.pw_store.proofs.shelf.SqlShelf.put_total.Goals as goal

pub returns-then-branch-gt0-clause-content : goal.returns-then-branch-gt0-clause-content
returns-then-branch-gt0-clause-content g c clean = set_any c.in_ok-change.field-0 _ _ _ (let some = c.if-branch-gt0.true in omega (arith, some)) (c.in_ok-change.ensures.content clean)

pub returns-clause-content : goal.returns-clause-content
returns-clause-content g c clean =
    let none = c.if-branch-gt0.false in
    let same = set_none c.in_ok-change.field-0 _ _ _ (omega (arith, none)) (c.in_ok-change.ensures.content (c.change-2.ensures.keeps_else.clean clean)) in
    c.in_ok-change-2.ensures.content clean ∙ ap (λ held. with_total held c.args.key c.args.amount) same

pub returns-in_err-change-2-clause-keeps_else : goal.returns-in_err-change-2-clause-keeps_else
returns-in_err-change-2-clause-keeps_else g c =
    let p = err_from_is_err_and c.from_residual-in_err-change-2.result c.from_residual-in_err-change-2.ensures.1 in
    on_failed g.S.Store _ c.in_err-change-2.field-0.0 p.0 c.from_residual-in_err-change-2.result _ _ p.1 p.2 (on_then g.S.Store c.in_ok-change.field-0 (Err c.in_err-change-2.field-0.0) _ _ _ c.in_ok-change.ensures.keeps_else c.in_err-change-2.ensures.keeps_else)

pub returns-clause-keeps_else : goal.returns-clause-keeps_else
returns-clause-keeps_else g c =
    on_told g.S.Store (Ok c.in_ok-change-2.field-0) (Ok tt) _ _ refl (on_then g.S.Store c.in_ok-change.field-0 (Ok c.in_ok-change-2.field-0) _ _ _ c.in_ok-change.ensures.keeps_else c.in_ok-change-2.ensures.keeps_else)
