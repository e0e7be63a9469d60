use Rattle.std.proofs.Common.{◌≡◌, ℕ, ◌*◌, Some, refl, ap, ◌∙◌, arith}
use Rattle.pw_flow.specs.Time.{sum_over}
use Rattle.pw_tariff.specs.Office.{office_of}
use Rattle.pw_model.specs.Counting.{contents_at}
use Rattle.pw_model.specs.Energy.{energy_where, of_class}
use Rattle.pw_model.proofs.PlainEnergy.{sum-more, price-fits, energy-fits}
use Rattle.pw_model.proofs.plain.balances.cost_in.Goals as goal

pub loop-band-init : goal.loop-band-init
unfolding sum_over
loop-band-init c = record { sum = refl; bound = omega arith }

pub loop-band-preserved : goal.loop-band-preserved
loop-band-preserved c =
    let office = office_of c.args.terms.now in
    let f : ℕ → ℕ = λ b. office.price c.args.period.0 b c.args.direction * energy_where office (contents_at c.args.entries.now) c.args.direction (of_class office (Some c.args.account) c.args.period.0 b) in
    let p : c.price.result ≡ office.price c.args.period.0 c.loop-band.band c.args.direction = c.price.ensures in
    let q : c.in_ok-wh.wh ≡ energy_where office (contents_at c.args.entries.now) c.args.direction (of_class office (Some c.args.account) c.args.period.0 c.loop-band.band) = c.in_ok-wh.ensures in
    let here : c.price_of-nano.result ≡ f c.loop-band.band = c.price_of-nano.ensures.price ∙ (λ i. p i * q i) in
    let more = sum-more f c.loop-band.band c.loop-band.nano c.price_of-nano.result c.loop-band.invariant.sum here in
    let fit = energy-fits office c.args.entries.now c.args.direction (of_class office (Some c.args.account) c.args.period.0 c.loop-band.band) c.requires.office c.requires.entries c.requires.few in
    let most = price-fits office c.args.period.0 c.loop-band.band (energy_where office (contents_at c.args.entries.now) c.args.direction (of_class office (Some c.args.account) c.args.period.0 c.loop-band.band)) c.args.direction c.requires.office c.requires.period (omega (arith, c.bands-band-end.ensures, c.loop-band-test.true)) fit in
    record { sum = omega (arith, more); bound = omega (arith, here, most, c.loop-band.invariant.bound) }

pub returns-clause-cost : goal.returns-clause-cost
returns-clause-cost c =
    let office = office_of c.args.terms.now in
    let f : ℕ → ℕ = λ b. office.price c.args.period.0 b c.args.direction * energy_where office (contents_at c.args.entries.now) c.args.direction (of_class office (Some c.args.account) c.args.period.0 b) in
    let e : c.loop-band.band ≡ office.bands = omega (arith, c.bands-band-end.ensures, c.loop-band.auto.band-end, c.loop-band-test.false) in
    c.loop-band.invariant.sum ∙ ap (sum_over f 0) e
