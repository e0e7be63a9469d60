use Rattle.std.proofs.Common.{◌≡◌, Ok, Err, [], ◌∷◌, ap, refl, sym, subst, ◌∙◌, arith}
use Rattle.std.proofs.lemmas.Result.{err_from_is_err_and}
use Rattle.std.proofs.lemmas.List.{take_all}
use Rattle.sqlite.specs.Held.{state}
use Rattle.pw_store.specs.Kept.{written_of}
use Rattle.pw_store.specs.Waiting.{with_waiting}
use Rattle.pw_store.proofs.Onward.{on_failed, on_itself, on_then, on_told}
use Rattle.pw_store.proofs.Waited.{written_more}
use Rattle.pw_store.proofs.shelf.SqlShelf.write_each.Goals as goal

pub loop-point-init : goal.loop-point-init
loop-point-init g c = record {
  begun = c.requires;
  written = λ clean. refl;
  waits = refl;
  else = on_itself g.S.Store c.args.self.now;
}

pub loop-point-preserved : goal.loop-point-preserved
loop-point-preserved g c =
    let store = g.S.Store in
    let old = c.args.self.now in
    let p = c.point-item.result in
    let was = c.loop-point.invariant in
    let it = c.in_ok-write_point.ensures in
    record {
      begun = it.keeps_else.begun ∙ was.begun;
      written = λ clean. it.content clean ∙ ap (with_waiting (p ∷ [])) (was.written (it.keeps_else.clean clean))
          ∙ sym (written_more c.args.points.now c.loop-point.point-index p c.point-item.is c.loop-point-test.true (written_of (state store old.conn) (state store old.base.value)));
      waits = it.waits ∙ was.waits;
      else = on_told store (Ok c.in_ok-write_point.field-0) (Ok tt) _ _ refl (on_then store tt (Ok c.in_ok-write_point.field-0) _ _ _ was.else it.keeps_else);
    }

pub returns-in_err-write_point-clause-keeps_else : goal.returns-in_err-write_point-clause-keeps_else
returns-in_err-write_point-clause-keeps_else g c =
    let p = err_from_is_err_and c.from_residual.result c.from_residual.ensures.1 in
    on_failed g.S.Store _ c.in_err-write_point.field-0.0 p.0 c.from_residual.result _ _ p.1 p.2
    (on_then g.S.Store tt (Err c.in_err-write_point.field-0.0) _ _ _ c.loop-point.invariant.else c.in_err-write_point.ensures.keeps_else)

pub returns-clause-content : goal.returns-clause-content
returns-clause-content g c clean =
    let store = g.S.Store in
    let old = c.args.self.now in
    let now = c.loop-point.self in
    let passed = c.loop-point-test.false in
    subst (λ points. written_of (state store now.conn) (state store now.base.value) ≡ with_waiting points (written_of (state store old.conn) (state store old.base.value)))
    (take_all c.loop-point.point-index c.args.points.now (omega (arith, passed))) (c.loop-point.invariant.written clean)
