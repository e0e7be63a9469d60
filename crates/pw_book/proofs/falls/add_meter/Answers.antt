use Rattle.std.proofs.Common.{◌≡◌, ℕ, ◌+◌, ◌*◌, ap, arith}
use Rattle.pw_book.proofs.Chains.{asked-then}
use Rattle.pw_book.proofs.Fallen.{falls-next, falls-at}
use Rattle.pw_book.proofs.Segments.{place-at}
use Rattle.pw_book.proofs.falls.add_meter.Goals as goal

pub loop-register-preserved : goal.loop-register-preserved
loop-register-preserved g c = record {
  falls = λ k o b.
      let before = c.add_register.ensures.asked.kept.clean k in
      let here = place-at c.loop-register.register-index _ c.loop-register-test.true in
      falls-next _ _ (6 * c.args.meter.0 + c.loop-register.register-index) _ _ (6 * c.args.meter.0 + (c.loop-register.register-index + 1)) c.loop-register.falls.items _ (c.loop-register.invariant.asked.content before)
      (ap (λ (p : ℕ). 6 * c.args.meter.0 + p) here) (omega (arith, here)) o (c.loop-register.invariant.falls before o b) (c.in_ok-add_register.ensures.falls k);
  asked = asked-then _ g.met.S.Shelf.same_then _ _ _ _ c.loop-register.invariant.asked c.in_ok-add_register.ensures.asked;
}

pub returns-clause-falls : goal.returns-clause-falls
returns-clause-falls g c = λ k o b.
    let all : c.loop-register.register-index ≡ 6 = omega (arith, c.loop-register-test.false, c.loop-register.auto.register-index-end) in
    falls-at _ _ _ c.loop-register.falls.items (ap (λ (p : ℕ). 6 * c.args.meter.0 + p) all) (c.loop-register.invariant.falls k o b)
