use Rattle.std.proofs.Common.{arith}
use Rattle.pw_model.specs.Lists.{AreDisputes}
use Rattle.pw_model.proofs.EntryOrder.{if-ok}
use Rattle.pw_model.proofs.Standing.{disputes-of_standing, view-stands, view-rises}
use Rattle.pw_model.proofs.plain.dispute_list.disputes.Goals as goal

pub disputes_among-requires-clause-few : goal.disputes_among-requires-clause-few
disputes_among-requires-clause-few c = rw c.deref.ensures.value (omega (arith, c.in_ok-in_order.ensures.few, c.requires))

pub disputes_among-requires-clause-rising : goal.disputes_among-requires-clause-rising
disputes_among-requires-clause-rising c = view-rises c.args.entries.now c.deref.result.now c.in_ok-in_order.in_order.items c.deref.ensures.value c.in_ok-in_order.ensures.standing

pub disputes_among-requires-clause-standing : goal.disputes_among-requires-clause-standing
disputes_among-requires-clause-standing c = view-stands c.args.entries.now c.deref.result.now c.in_ok-in_order.in_order.items c.deref.ensures.value c.in_ok-in_order.ensures.standing

pub returns : goal.returns
returns c =
    if-ok c.disputes_among.result (λ disputes. AreDisputes c.deref.result.now disputes.items) (λ disputes. AreDisputes c.args.entries.now disputes.items)
    (λ disputes l. disputes-of_standing c.args.entries.now c.deref.result.now c.in_ok-in_order.in_order.items disputes.items c.deref.ensures.value c.in_ok-in_order.ensures.standing l) c.disputes_among.ensures
