use Rattle.std.proofs.Common.{◌≡◌, ℕ, ◌+◌, ◌*◌, ◌<◌, refl, ap, arith}
use Rattle.pw_book.proofs.Chains.{asked-then}
use Rattle.pw_book.proofs.Contested.{disputes-next, disputes-at}
use Rattle.pw_book.proofs.disputes.add_readings.Goals as goal

pub loop-meter-preserved : goal.loop-meter-preserved
loop-meter-preserved g c = record {
  disputes = λ k meters w e b.
      let before = c.add_meter.ensures.asked.kept.clean k in
      let within : c.loop-meter.meter < meters = omega (arith, e, c.loop-meter-test.true) in
      disputes-next meters _ _ (6 * c.loop-meter.meter) (6 * c.loop-meter.meter) (6 * c.loop-meter.meter + 6) (6 * (c.loop-meter.meter + 1)) c.loop-meter.disputes.items _ (c.loop-meter.invariant.asked.content before)
      refl (omega arith) w (c.loop-meter.invariant.disputes before meters w e b) (λ v. c.in_ok-add_meter.ensures.disputes k meters v within);
  asked = asked-then _ g.met.S.Shelf.same_then _ _ _ _ c.loop-meter.invariant.asked c.in_ok-add_meter.ensures.asked;
}

pub returns-clause-disputes : goal.returns-clause-disputes
returns-clause-disputes g c = λ k meters w e b.
    let all : c.loop-meter.meter ≡ meters = omega (arith, e, c.loop-meter-test.false, c.loop-meter.auto) in
    disputes-at meters _ _ _ c.loop-meter.disputes.items (ap (λ (n : ℕ). 6 * n) all) (c.loop-meter.invariant.disputes k meters w e b)
