use Rattle.std.proofs.Common.{[], ◌∷◌}
use Rattle.std.proofs.lemmas.Result.{err_from_is_err_and}
use Rattle.pw_carrying.proofs.Sent.{gives-failed, gives-sends}
use Rattle.pw_carrying.proofs.waiting.give.Goals as goal

pub returns-in_err-push-clause-gives : goal.returns-in_err-push-clause-gives
returns-in_err-push-clause-gives g c = λ k.
    let p = err_from_is_err_and c.from_residual.result c.from_residual.ensures.1 in
    gives-failed p.0 c.from_residual.result c.args.basis.now.office.now c.args.into.now.office (c.args.entry.now ∷ []) (g.T.Shelf.state c.args.into.now.shelf).content.records c.args.waiting.now.entries.items c.push.new.self.items p.1 p.2

pub returns-clause-gives : goal.returns-clause-gives
returns-clause-gives g c = λ k.
    gives-sends c.post_waiting.result c.args.basis.now.office.now c.args.into.now.office (c.args.entry.now ∷ []) (g.T.Shelf.state c.args.into.now.shelf).content.records c.args.waiting.now.entries.items c.push.new.self.items
    (g.T.Shelf.state c.post_waiting.new.into.shelf).content.records c.post_waiting.new.waiting.entries.items c.in_ok-push.ensures.items (c.post_waiting.ensures.sends k)
