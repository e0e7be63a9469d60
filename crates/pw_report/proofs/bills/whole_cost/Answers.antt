use Rattle.std.proofs.Common.{◌≡◌, ◌∙◌, ℕ, ap, arith}
use Rattle.pw_flow.specs.Time.{sum_over}
use Rattle.pw_tariff.specs.Office.{office_of, periods_in}
use Rattle.pw_model.specs.Energy.{over_bands}
use Rattle.pw_model.proofs.PlainEnergy.{sum-more}
use Rattle.pw_report.specs.inner.Told.{bill_of_sheet}
use Rattle.pw_report.proofs.bills.whole_cost.Goals as goal

pub loop-period-preserved : goal.loop-period-preserved
loop-period-preserved c =
    let was = c.loop-period.invariant in
    let f : ℕ → ℕ = λ p. over_bands (office_of c.args.sheet.now.office.now) (λ b. (bill_of_sheet c.args.sheet.now).cost p b c.args.direction) in
    record {
      sum = (let more = sum-more f c.loop-period.period c.loop-period.nano c.cost_in-nano.result was.sum c.cost_in-nano.ensures.cost in omega (arith, more));
      few = (let a = was.few in let e = c.cost_in-nano.ensures.bound in omega (arith, a, e));
    }

pub returns-clause-cost : goal.returns-clause-cost
returns-clause-cost c =
    let f : ℕ → ℕ = λ p. over_bands (office_of c.args.sheet.now.office.now) (λ b. (bill_of_sheet c.args.sheet.now).cost p b c.args.direction) in
    let all : c.loop-period.period ≡ periods_in c.args.sheet.now.office.now = omega (arith, c.periods-period-end.ensures.count, c.loop-period.auto.period-end, c.loop-period-test.false) in
    c.loop-period.invariant.sum ∙ ap (sum_over f 0) all

pub returns-clause-bound : goal.returns-clause-bound
returns-clause-bound c = let a = c.loop-period.invariant.few in omega (arith, a)
