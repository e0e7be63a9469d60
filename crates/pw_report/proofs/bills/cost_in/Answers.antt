use Rattle.std.proofs.Common.{◌≡◌, ◌∙◌, ℕ, ap, arith, length}
use Rattle.pw_flow.specs.Time.{sum_over}
use Rattle.pw_model.proofs.PlainEnergy.{sum-more}
use Rattle.pw_report.specs.inner.Told.{bill_of_sheet}
use Rattle.pw_report.proofs.bills.cost_in.Goals as goal

pub loop-band-preserved : goal.loop-band-preserved
loop-band-preserved c =
    let was = c.loop-band.invariant in
    let f : ℕ → ℕ = λ b. (bill_of_sheet c.args.sheet.now).cost c.args.period.0 b c.args.direction in
    record {
      sum = (let more = sum-more f c.loop-band.band c.loop-band.nano c.class_cost-nano.result was.sum c.class_cost-nano.ensures.cost in omega (arith, more));
      few = (let a = was.few in let e = c.class_cost-nano.ensures.bound in omega (arith, a, e));
    }

pub returns-clause-cost : goal.returns-clause-cost
returns-clause-cost c =
    let f : ℕ → ℕ = λ b. (bill_of_sheet c.args.sheet.now).cost c.args.period.0 b c.args.direction in
    let all : c.loop-band.band ≡ length c.args.sheet.now.office.now.bands = omega (arith, c.bands-band-end.ensures.count, c.loop-band.auto.band-end, c.loop-band-test.false) in
    c.loop-band.invariant.sum ∙ ap (sum_over f 0) all

pub returns-clause-bound : goal.returns-clause-bound
returns-clause-bound c = let a = c.loop-band.invariant.few in omega (arith, a)
