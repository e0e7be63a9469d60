use Rattle.std.proofs.Common.{Ok, Err, ap, refl, ◌∙◌, rules}
use Rattle.std.proofs.lemmas.Result.{err_from_is_err_and}
use Rattle.pw_store.specs.inner.Changing.{changed}
use Rattle.pw_store.proofs.Onward.{on_failed, on_told, on_then}
use Rattle.pw_store.proofs.shelf.SqlShelf.replace.Goals as goal

pub returns-clause-content : goal.returns-clause-content
returns-clause-content g c clean =
    let taken = c.in_ok-change.ensures.content (c.change-2.ensures.keeps_else.clean clean) ∙ (c.requires.steady _ _).0 in
    c.in_ok-change-2.ensures.content clean ∙ (c.requires.steady _ _).1 ∙ ap (changed c.args.put 1) taken

pub returns-clause-keeps_else : goal.returns-clause-keeps_else
returns-clause-keeps_else g c =
    on_told g.S.Store (Ok c.in_ok-change-2.field-0) (Ok tt) _ _ refl (on_then g.S.Store c.in_ok-change.field-0 (Ok c.in_ok-change-2.field-0) _ _ _ c.in_ok-change.ensures.keeps_else c.in_ok-change-2.ensures.keeps_else)

pub returns-in_err-change-2-clause-keeps_else : goal.returns-in_err-change-2-clause-keeps_else
returns-in_err-change-2-clause-keeps_else g c =
    let p = err_from_is_err_and c.from_residual-in_err-change-2.result c.from_residual-in_err-change-2.ensures.1 in
    on_failed g.S.Store _ c.in_err-change-2.field-0.0 p.0 c.from_residual-in_err-change-2.result _ _ p.1 p.2 (on_then g.S.Store c.in_ok-change.field-0 (Err c.in_err-change-2.field-0.0) _ _ _ c.in_ok-change.ensures.keeps_else c.in_err-change-2.ensures.keeps_else)

pub change-requires-clause-free : goal.change-requires-clause-free
change-requires-clause-free g c = search rules depth 0 fits 100
