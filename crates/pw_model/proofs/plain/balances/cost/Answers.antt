use Rattle.std.proofs.Common.{◌≡◌, ℕ, Some, refl, ap, ◌∙◌, arith}
use Rattle.pw_flow.specs.Time.{sum_over}
use Rattle.pw_tariff.specs.Office.{office_of}
use Rattle.pw_model.specs.Counting.{contents_at}
use Rattle.pw_model.specs.Energy.{cost}
use Rattle.pw_model.specs.inner.Tariff.{period_cost}
use Rattle.pw_model.proofs.PlainEnergy.{sum-more}
use Rattle.pw_model.proofs.plain.balances.cost.Goals as goal

pub loop-period-init : goal.loop-period-init
unfolding sum_over
loop-period-init c = record { sum = refl; bound = omega arith }

pub loop-period-preserved : goal.loop-period-preserved
loop-period-preserved c =
    let office = office_of c.args.terms.now in
    let f : ℕ → ℕ = λ p. period_cost office (contents_at c.args.entries.now) (Some c.args.account) p c.args.direction in
    let more = sum-more f c.loop-period.period c.loop-period.nano c.in_ok-part.part c.loop-period.invariant.sum c.in_ok-part.ensures.cost in
    record { sum = omega (arith, more); bound = omega (arith, c.in_ok-part.ensures.bound, c.loop-period.invariant.bound) }

pub returns-clause-cost : goal.returns-clause-cost
unfolding cost
returns-clause-cost c =
    let office = office_of c.args.terms.now in
    let f : ℕ → ℕ = λ p. period_cost office (contents_at c.args.entries.now) (Some c.args.account) p c.args.direction in
    let e : c.loop-period.period ≡ office.periods = omega (arith, c.periods-period-end.ensures, c.loop-period.auto.period-end, c.loop-period-test.false) in
    c.loop-period.invariant.sum ∙ ap (sum_over f 0) e
