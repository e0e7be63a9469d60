use Rattle.std.proofs.Common.{Ok, Err, None, refl, sym, ap, ◌∙◌}
use Rattle.std.proofs.lemmas.Result.{err_from_is_err_and}
use Rattle.sqlite.specs.Held.{state}
use Rattle.pw_model.specs.Shelf.{ShelfContent}
use Rattle.pw_shelf.specs.Changes.{with_point}
use Rattle.pw_store.specs.Kept.{written_of}
use Rattle.pw_store.specs.Waiting.{with_waiting}
use Rattle.pw_store.proofs.Onward.{on_failed, on_then, on_told}
use Rattle.pw_store.proofs.Waited.{over_same}
use Rattle.pw_store.proofs.shelf.SqlShelf.take_point.Goals as goal

pub returns-clause-content : goal.returns-clause-content
returns-clause-content g c clean =
    let now = c.write_waiting.new.self in
    let written = written_of (state g.S.Store now.conn) (state g.S.Store now.base.value) in
    let taken = λ (held : ShelfContent). with_point held c.args.meter.0 c.args.register c.args.instant None in
    over_same _ _ _ _ c.in_ok-change.ensures.waits (c.in_ok-change.ensures.content clean)
    ∙ ap (λ waiting. with_waiting waiting (taken written)) c.in_ok-write_waiting.ensures.none
    ∙ ap (λ waiting. taken (with_waiting waiting written)) (sym c.in_ok-write_waiting.ensures.none)
    ∙ ap taken (c.in_ok-write_waiting.ensures.content (c.in_ok-change.ensures.keeps_else.clean clean))

pub returns-clause-keeps_else : goal.returns-clause-keeps_else
returns-clause-keeps_else g c =
    on_told g.S.Store (Ok c.in_ok-change.field-0) (Ok tt) _ _ refl (on_then g.S.Store c.in_ok-write_waiting.field-0 (Ok c.in_ok-change.field-0) _ _ _ c.in_ok-write_waiting.ensures.keeps_else c.in_ok-change.ensures.keeps_else)

pub returns-in_err-change-clause-keeps_else : goal.returns-in_err-change-clause-keeps_else
returns-in_err-change-clause-keeps_else g c =
    let p = err_from_is_err_and c.from_residual-in_err-change.result c.from_residual-in_err-change.ensures.1 in
    on_failed g.S.Store _ c.in_err-change.field-0.0 p.0 c.from_residual-in_err-change.result _ _ p.1 p.2 (on_then g.S.Store c.in_ok-write_waiting.field-0 (Err c.in_err-change.field-0.0) _ _ _ c.in_ok-write_waiting.ensures.keeps_else c.in_err-change.ensures.keeps_else)
