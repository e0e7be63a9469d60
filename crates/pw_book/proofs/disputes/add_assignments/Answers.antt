use Rattle.std.proofs.Common.{◌≡◌, ◌+◌, ◌*◌, ◌<◌, refl, arith}
use Rattle.pw_book.proofs.Chains.{asked-then}
use Rattle.pw_book.proofs.Contested.{disputes-next, disputes-at}
use Rattle.pw_book.proofs.disputes.add_assignments.Goals as goal

pub loop-meter-preserved : goal.loop-meter-preserved
loop-meter-preserved g c = record {
  disputes = λ k meters w e b.
      let before = c.add_assignments_of.ensures.asked.kept.clean k in
      let within : c.loop-meter.meter < meters = omega (arith, e, c.loop-meter-test.true) in
      disputes-next meters _ _ (6 * meters + c.loop-meter.meter) (6 * meters + c.loop-meter.meter) (6 * meters + (c.loop-meter.meter + 1)) (6 * meters + (c.loop-meter.meter + 1)) c.loop-meter.disputes.items _ (c.loop-meter.invariant.asked.content before)
      refl (omega arith) w (c.loop-meter.invariant.disputes before meters w e b) (λ v. c.in_ok-add_assignments_of.ensures.disputes k meters v within);
  asked = asked-then _ g.met.S.Shelf.same_then _ _ _ _ c.loop-meter.invariant.asked c.in_ok-add_assignments_of.ensures.asked;
}

pub returns-clause-disputes : goal.returns-clause-disputes
returns-clause-disputes g c = λ k meters w e b.
    let all : c.loop-meter.meter ≡ meters = omega (arith, e, c.loop-meter-test.false, c.loop-meter.auto) in
    disputes-at meters _ _ _ c.loop-meter.disputes.items ((omega (arith, all))) (c.loop-meter.invariant.disputes k meters w e b)
