use Rattle.std.proofs.Common.{◌≡◌, ◌∙◌, ◌*◌, ℕ, ap, arith}
use Rattle.pw_flow.specs.Time.{sum_over}
use Rattle.pw_tariff.specs.Office.{periods_in, price_at}
use Rattle.pw_model.proofs.PlainEnergy.{sum-more}
use Rattle.pw_report.specs.inner.Told.{day_energies}
use Rattle.pw_report.proofs.days.day_nano.Goals as goal

pub loop-period-preserved : goal.loop-period-preserved
loop-period-preserved c =
    let was = c.loop-period.invariant in
    let file = c.args.told.now.office.now in
    let f : ℕ → ℕ = λ p. price_at file p c.args.band.0 c.args.direction * day_energies c.args.told.now.energies.now c.args.day p c.args.band.0 c.args.direction in
    let p : c.price.result ≡ price_at file c.loop-period.period c.args.band.0 c.args.direction = c.price.ensures.price in
    let q : c.energy_in-wh.result ≡ day_energies c.args.told.now.energies.now c.args.day c.loop-period.period c.args.band.0 c.args.direction = c.energy_in-wh.ensures in
    let here : c.price_of-nano.result ≡ f c.loop-period.period = c.price_of-nano.ensures.price ∙ (λ i. p i * q i) in
    record {
      sum = (let more = sum-more f c.loop-period.period c.loop-period.nano c.price_of-nano.result was.sum here in omega (arith, more));
      few = (let a = was.few in let e = c.price_of-nano.ensures.bound in omega (arith, a, e));
    }

pub returns : goal.returns
returns c =
    let file = c.args.told.now.office.now in
    let f : ℕ → ℕ = λ p. price_at file p c.args.band.0 c.args.direction * day_energies c.args.told.now.energies.now c.args.day p c.args.band.0 c.args.direction in
    let all : c.loop-period.period ≡ periods_in file = omega (arith, c.periods-period-end.ensures.count, c.loop-period.auto.period-end, c.loop-period-test.false) in
    c.loop-period.invariant.sum ∙ ap (sum_over f 0) all
