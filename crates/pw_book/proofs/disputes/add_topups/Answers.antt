use Rattle.std.proofs.Common.{◌*◌}
use Rattle.pw_model.specs.Kinds.{IsTopUp}
use Rattle.pw_book.proofs.Contested.{disputes-more, topup-place}
use Rattle.pw_book.proofs.disputes.add_topups.Goals as goal

pub returns-clause-disputes : goal.returns-clause-disputes
returns-clause-disputes g c = λ k meters w before.
    let middle = c.add_disputes_among.ensures.asked.kept.clean k in
    disputes-more (IsTopUp) meters (7 * meters) (g.S.Shelf.state c.args.shelf.now).content _ c.in_ok-topups.topups.items c.deref.result.now c.args.disputes.now.items c.add_disputes_among.new.disputes.items
    (c.topups_held.ensures.asked.content middle) c.deref.ensures.value w (c.in_ok-topups.ensures.rows middle) (topup-place meters) (c.in_ok-add_disputes_among.ensures.disputes k) before
