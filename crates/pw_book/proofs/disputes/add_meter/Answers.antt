use Rattle.std.proofs.Common.{◌≡◌, ℕ, ◌+◌, ◌*◌, ap, arith}
use Rattle.pw_book.proofs.Chains.{asked-then}
use Rattle.pw_book.proofs.Contested.{disputes-next, disputes-at}
use Rattle.pw_book.proofs.Segments.{place-at}
use Rattle.pw_book.proofs.disputes.add_meter.Goals as goal

pub loop-register-preserved : goal.loop-register-preserved
loop-register-preserved g c = record {
  disputes = λ k meters w l b.
      let before = c.add_readings_of.ensures.asked.kept.clean k in
      let here = place-at c.loop-register.register-index _ c.loop-register-test.true in
      disputes-next meters _ _ (6 * c.args.meter.0 + c.loop-register.register-index) _ _ (6 * c.args.meter.0 + (c.loop-register.register-index + 1)) c.loop-register.disputes.items _ (c.loop-register.invariant.asked.content before)
      (ap (λ (p : ℕ). 6 * c.args.meter.0 + p) here) (omega (arith, here)) w (c.loop-register.invariant.disputes before meters w l b) (λ v. c.in_ok-add_readings_of.ensures.disputes k meters v l);
  asked = asked-then _ g.met.S.Shelf.same_then _ _ _ _ c.loop-register.invariant.asked c.in_ok-add_readings_of.ensures.asked;
}

pub returns-clause-disputes : goal.returns-clause-disputes
returns-clause-disputes g c = λ k meters w l b.
    let all : c.loop-register.register-index ≡ 6 = omega (arith, c.loop-register-test.false, c.loop-register.auto.register-index-end) in
    disputes-at meters _ _ _ c.loop-register.disputes.items (ap (λ (p : ℕ). 6 * c.args.meter.0 + p) all) (c.loop-register.invariant.disputes k meters w l b)
