use Rattle.std.proofs.Common.{◌+◌, ◌*◌, arith}
use Rattle.pw_model.specs.Kinds.{IsAssignmentOf}
use Rattle.pw_book.proofs.Contested.{disputes-at, disputes-more, assignment-place}
use Rattle.pw_book.proofs.disputes.add_assignments_of.Goals as goal

pub returns-clause-disputes : goal.returns-clause-disputes
returns-clause-disputes g c = λ k meters w l before.
    let middle = c.add_disputes_among.ensures.asked.kept.clean k in
    let records = (g.S.Shelf.state c.args.shelf.now).content.records in
    disputes-at meters records (6 * meters + c.args.meter.0 + 1) (6 * meters + (c.args.meter.0 + 1)) _ (omega arith)
    (disputes-more (IsAssignmentOf c.args.meter) meters (6 * meters + c.args.meter.0) (g.S.Shelf.state c.args.shelf.now).content _ c.in_ok-assignments.assignments.items c.deref.result.now c.args.disputes.now.items c.add_disputes_among.new.disputes.items
    (c.assignments_held.ensures.asked.content middle) c.deref.ensures.value w (c.in_ok-assignments.ensures.rows middle) (assignment-place meters c.args.meter l) (c.in_ok-add_disputes_among.ensures.disputes k) before)
