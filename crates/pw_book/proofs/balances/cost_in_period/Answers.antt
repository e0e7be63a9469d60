use Rattle.std.proofs.Common.{◌≡◌, ℕ, ◌*◌, Some, refl, ap, ◌∙◌, arith}
use Rattle.pw_flow.specs.Time.{sum_over}
use Rattle.pw_tariff.specs.Office.{office_of}
use Rattle.pw_model.specs.Energy.{energy_in_period}
use Rattle.pw_model.specs.Shelf.{ShelfContent}
use Rattle.pw_model.proofs.PlainEnergy.{sum-more}
use Rattle.pw_book.proofs.Chains.{asked-none, asked-then, asked-true}
use Rattle.pw_book.proofs.balances.cost_in_period.Goals as goal

pub loop-band-init : goal.loop-band-init
unfolding sum_over
loop-band-init g c = record { sum = λ k. refl; few = omega arith; tally = omega arith; asked = asked-none _ g.met.S.Shelf.same_yet _ }

pub energy_in_held-requires-clause-truth : goal.energy_in_held-requires-clause-truth
energy_in_held-requires-clause-truth g c = asked-true g.S.Shelf (office_of c.args.office.now) _ _ c.requires.truth c.loop-band.invariant.asked

pub loop-band-preserved : goal.loop-band-preserved
loop-band-preserved g c =
    let was = c.loop-band.invariant in
    let office = office_of c.args.office.now in
    let band = c.loop-band.band in
    record {
      sum = λ k.
          let before = c.energy_in_held.ensures.asked.kept.clean k in
          let energy_at : ShelfContent → ℕ → ℕ = λ d b. energy_in_period office d.records (Some c.args.account) c.args.period.0 b c.args.direction in
          let cost_at : ℕ → ℕ = λ b. office.price c.args.period.0 b c.args.direction * energy_at (g.S.Shelf.state c.args.shelf.now).content b in
          let price : c.price.result ≡ office.price c.args.period.0 band c.args.direction = c.price.ensures.price in
          let wh : c.in_ok-wh.wh ≡ energy_at (g.S.Shelf.state c.args.shelf.now).content band = c.in_ok-wh.ensures.energy k ∙ ap (λ (d : ShelfContent). energy_at d band) (was.asked.content before) in
          let more = sum-more cost_at band c.loop-band.nano c.price_of-nano.result (was.sum before) (c.price_of-nano.ensures.price ∙ (λ i. price i * wh i)) in
          omega (arith, more);
      few = let a = was.few in let b = c.price_of-nano.ensures.bound in omega (arith, a, b);
      tally = let a = was.tally in let b = c.energy_in_held.ensures.tally in omega (arith, a, b);
      asked = asked-then _ g.met.S.Shelf.same_then _ _ _ _ was.asked c.in_ok-wh.ensures.asked;
    }

pub returns-clause-cost : goal.returns-clause-cost
returns-clause-cost g c = λ k.
    let office = office_of c.args.office.now in
    let was = (g.S.Shelf.state c.args.shelf.now).content in
    let f : ℕ → ℕ = λ b. office.price c.args.period.0 b c.args.direction * energy_in_period office was.records (Some c.args.account) c.args.period.0 b c.args.direction in
    let all : c.loop-band.band ≡ office.bands = omega (arith, c.bands-band-end.ensures.count, c.loop-band.auto.band-end, c.loop-band-test.false) in
    c.loop-band.invariant.sum k ∙ ap (sum_over f 0) all
