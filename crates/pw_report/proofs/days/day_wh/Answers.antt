use Rattle.std.proofs.Common.{◌≡◌, ◌∙◌, ℕ, ap, arith}
use Rattle.pw_flow.specs.Time.{sum_over}
use Rattle.pw_tariff.specs.Office.{periods_in}
use Rattle.pw_model.proofs.PlainEnergy.{sum-more}
use Rattle.pw_report.specs.inner.Told.{day_energies}
use Rattle.pw_report.proofs.days.day_wh.Goals as goal

pub loop-period-preserved : goal.loop-period-preserved
loop-period-preserved c =
    let was = c.loop-period.invariant in
    let f : ℕ → ℕ = λ p. day_energies c.args.told.now.energies.now c.args.day p c.args.band.0 c.args.direction in
    let here : c.from-wh.result ≡ f c.loop-period.period = c.from-wh.ensures ∙ c.energy_in.ensures in
    record {
      sum = (let more = sum-more f c.loop-period.period c.loop-period.wh c.from-wh.result was.sum here in omega (arith, more));
      few = (let a = was.few in omega (arith, a));
    }

pub returns : goal.returns
returns c =
    let f : ℕ → ℕ = λ p. day_energies c.args.told.now.energies.now c.args.day p c.args.band.0 c.args.direction in
    let all : c.loop-period.period ≡ periods_in c.args.told.now.office.now = omega (arith, c.periods-period-end.ensures.count, c.loop-period.auto.period-end, c.loop-period-test.false) in
    c.loop-period.invariant.sum ∙ ap (sum_over f 0) all
