use Rattle.std.proofs.Common.{sym, ◌∙◌}
use Rattle.pw_book.proofs.WindowPairs.{register-gathered}
use Rattle.pw_book.proofs.start_change.add_register.Goals as goal

pub returns-clause-moved : goal.returns-clause-moved
returns-clause-moved g c = λ k was is h.
    register-gathered c.args.basis.now.office.now (g.S.Shelf.state c.args.shelf.now).content was is c.args.window.now.meter.0 c.args.window.now.from c.args.window.now.until c.args.window.now.before c.args.window.now.after c.args.register c.direction_of-direction.result
    c.in_ok-over.over.before c.in_ok-over.over.within.items c.deref.result.now c.in_ok-over.over.after c.in_ok-points.points.items c.deref-2.result.now c.deref-3.result.now _ _ _ _ _ _ (sym c.counts.ensures ∙ c.if-not-counts.false)
    h (c.in_ok-over.ensures.points k) c.deref.ensures.value
    c.in_ok-points.ensures c.deref-2.ensures.value c.deref-3.ensures.value c.direction_of-direction.ensures
    c.in_ok-add_pairs.ensures.gathered c.in_ok-add_pairs.ensures.other c.in_ok-add_pairs-2.ensures.gathered c.in_ok-add_pairs-2.ensures.other
