use Rattle.pw_model.specs.Lists.{AreFalls}
use Rattle.pw_model.proofs.EntryOrder.{if-ok}
use Rattle.pw_model.proofs.Standing.{falls-of_standing, view-stands, view-rises}
use Rattle.pw_model.proofs.plain.fall_list.falls.Goals as goal

pub falls_among-requires-clause-rising : goal.falls_among-requires-clause-rising
falls_among-requires-clause-rising c = view-rises c.args.entries.now c.deref.result.now c.in_ok-in_order.in_order.items c.deref.ensures.value c.in_ok-in_order.ensures.standing

pub falls_among-requires-clause-standing : goal.falls_among-requires-clause-standing
falls_among-requires-clause-standing c = view-stands c.args.entries.now c.deref.result.now c.in_ok-in_order.in_order.items c.deref.ensures.value c.in_ok-in_order.ensures.standing

pub returns : goal.returns
returns c =
    if-ok c.falls_among.result (λ falls. AreFalls c.deref.result.now falls.items) (λ falls. AreFalls c.args.entries.now falls.items)
    (λ falls l. falls-of_standing c.args.entries.now c.deref.result.now c.in_ok-in_order.in_order.items falls.items c.deref.ensures.value c.in_ok-in_order.ensures.standing l) c.falls_among.ensures
