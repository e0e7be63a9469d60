use Rattle.std.proofs.Common.{◌≡◌, ℕ, ◌*◌, refl, ap, ◌∙◌, arith}
use Rattle.pw_flow.specs.Time.{sum_over}
use Rattle.pw_tariff.specs.Office.{office_of}
use Rattle.pw_model.proofs.PlainEnergy.{sum-more}
use Rattle.pw_bills.specs.Energies.{energy_told}
use Rattle.pw_bills.specs.inner.Settling.{band_id, period_id, told_cost}
use Rattle.pw_bills.proofs.billed.cost_in_period.Goals as goal

pub loop-band-init : goal.loop-band-init
unfolding sum_over
loop-band-init c = record { sum = refl; few = omega arith }

pub loop-band-preserved : goal.loop-band-preserved
loop-band-preserved c =
    let was = c.loop-band.invariant in
    let office = office_of c.args.office.now in
    let p : ℕ = c.args.period.0 in
    let b : ℕ = c.loop-band.band in
    let price : c.price.result ≡ office.price p b c.args.direction = c.price.ensures.price in
    let wh : c.wh-wh.result ≡ energy_told c.args.energies.now c.args.stretch (period_id p) (band_id b) c.args.direction = c.wh-wh.ensures in
    let more = sum-more (λ (n : ℕ). told_cost office c.args.energies.now c.args.stretch p n c.args.direction) b c.loop-band.nano c.price_of-nano.result was.sum (c.price_of-nano.ensures.price ∙ (λ i. price i * wh i)) in
    record {
      sum = omega (arith, more);
      few = let a = was.few in let n = c.price_of-nano.ensures.bound in omega (arith, a, n);
    }

pub returns-clause-cost : goal.returns-clause-cost
returns-clause-cost c =
    let office = office_of c.args.office.now in
    let f : ℕ → ℕ = λ b. told_cost office c.args.energies.now c.args.stretch c.args.period.0 b c.args.direction in
    let all : c.loop-band.band ≡ office.bands = omega (arith, c.bands-band-end.ensures.count, c.loop-band.auto.band-end, c.loop-band-test.false) in
    c.loop-band.invariant.sum ∙ ap (sum_over f 0) all
