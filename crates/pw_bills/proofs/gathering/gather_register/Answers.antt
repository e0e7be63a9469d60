use Rattle.std.proofs.Common.{◌+◌, refl, sym, ◌∙◌, inl, inr, arith, rules}
use Rattle.std.proofs.lemmas.Result.{on_ok_weaker}
use Rattle.pw_bills.proofs.Reading.{register-counted}
use Rattle.pw_bills.proofs.gathering.gather_register.Goals as goal

pub returns-then-counts-clause-few : goal.returns-then-counts-clause-few
returns-then-counts-clause-few g c = λ n f. on_ok_weaker c.add_register.result (λ h. (n + 1, omega arith, h)) (c.add_register.ensures.few n f)

pub returns-else-counts-clause-few : goal.returns-else-counts-clause-few
returns-else-counts-clause-few g c = λ n f. (n, omega arith, f)

pub returns-then-counts-clause-step : goal.returns-then-counts-clause-step
returns-then-counts-clause-step g c = λ k. on_ok_weaker c.add_register.result (λ h s n. (c.args.place.now.register, refl, inl (sym c.counts.ensures ∙ c.if-counts.true, h s n))) (c.add_register.ensures.added k)

pub returns-else-counts-clause-step : goal.returns-else-counts-clause-step
returns-else-counts-clause-step g c = λ k s n. (c.args.place.now.register, refl, inr (sym c.counts.ensures ∙ c.if-counts.false, refl))

pub returns-then-counts-clause-tally : goal.returns-then-counts-clause-tally
returns-then-counts-clause-tally g c = λ k each h.
    let place = c.args.place.now in
    register-counted place.basis.now.office.now place.meter.0 each place.register _ _ (sym c.counts.ensures ∙ c.if-counts.true) (c.add_register.ensures.tally k (each place.register) h)

pub add_register-requires-clause-counts : goal.add_register-requires-clause-counts
add_register-requires-clause-counts g c = search rules depth 0 fits 100
