use Rattle.std.proofs.Common.{◌∙◌, ap, Err, Global, Vec}
use Rattle.std.proofs.lemmas.Result.{err_from_is_err_and}
use Rattle.pw_model.specs.declared.records.Entry.{Entry}
use Rattle.pw_carrying.proofs.Sent.{sends-failed, sends-well}
use Rattle.pw_carrying.proofs.waiting.post_waiting.Goals as goal

pub returns-in_err-carried-clause-sends : goal.returns-in_err-carried-clause-sends
returns-in_err-carried-clause-sends g c = λ k.
    let p = err_from_is_err_and c.from_residual.result c.from_residual.ensures.1 in
    sends-failed (Vec Entry Global) c.in_err-carried.field-0.0 c.from_residual.result c.args.basis.now.office.now c.args.into.now.office (g.T.Shelf.state c.args.into.now.shelf).content.records c.args.waiting.now.entries.items c.args.waiting.now.entries.items c.deref.result.now _
    c.deref.ensures.value (p.1 ∙ ap Err p.2) c.in_err-carried.ensures.fault c.in_err-carried.ensures.able

pub returns-clause-sends : goal.returns-clause-sends
returns-clause-sends g c = λ k.
    sends-well (tt {0}) c.args.basis.now.office.now c.args.into.now.office (g.T.Shelf.state c.args.into.now.shelf).content.records c.args.waiting.now.entries.items (g.T.Shelf.state c.post.new.self.shelf).content.records c.clear.new.self.items c.deref.result.now
    c.in_ok-carried.carried.items c.deref-2.result.now c.deref.ensures.value c.in_ok-carried.ensures.carried c.deref-2.ensures.value c.clear.ensures.items c.in_ok-carried.ensures.able (c.in_ok-post.ensures.posted k).content.records
