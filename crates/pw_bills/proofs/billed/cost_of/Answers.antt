use Rattle.std.proofs.Common.{◌≡◌, ℕ, refl, ap, ◌∙◌, arith}
use Rattle.pw_flow.specs.Time.{sum_over}
use Rattle.pw_tariff.specs.Office.{office_of}
use Rattle.pw_model.proofs.PlainEnergy.{sum-more}
use Rattle.pw_bills.specs.inner.Settling.{period_told}
use Rattle.pw_bills.proofs.billed.cost_of.Goals as goal

pub loop-period-init : goal.loop-period-init
unfolding sum_over
loop-period-init c = record { sum = refl; few = omega arith }

pub loop-period-preserved : goal.loop-period-preserved
loop-period-preserved c =
    let was = c.loop-period.invariant in
    let f : ℕ → ℕ = λ p. period_told (office_of c.args.office.now) c.args.energies.now c.args.stretch p c.args.direction in
    let more = sum-more f c.loop-period.period c.loop-period.nano c.cost_in_period-nano.result was.sum c.cost_in_period-nano.ensures.cost in
    record {
      sum = omega (arith, more);
      few = let a = was.few in let n = c.cost_in_period-nano.ensures.bound in omega (arith, a, n);
    }

pub returns-clause-cost : goal.returns-clause-cost
returns-clause-cost c =
    let office = office_of c.args.office.now in
    let f : ℕ → ℕ = λ p. period_told office c.args.energies.now c.args.stretch p c.args.direction in
    let all : c.loop-period.period ≡ office.periods = omega (arith, c.periods-period-end.ensures.count, c.loop-period.auto.period-end, c.loop-period-test.false) in
    c.loop-period.invariant.sum ∙ ap (sum_over f 0) all
