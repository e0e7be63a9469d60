use Rattle.std.proofs.Common.{◌≡◌, ◌∙◌, ◌*◌, ℕ, ap, refl, arith}
use Rattle.pw_flow.specs.Time.{sum_over}
use Rattle.pw_tariff.specs.Office.{OfficeFile, office_of, periods_in, price_at}
use Rattle.pw_model.specs.Energy.{energy_in_period}
use Rattle.pw_model.specs.Shelf.{ShelfContent}
use Rattle.pw_model.proofs.PlainEnergy.{sum-next}
use Rattle.pw_report.specs.Exports.{energy_cost}
use Rattle.pw_report.proofs.Asking.{asked-none, asked-once, asked-then}
use Rattle.pw_report.proofs.energies.cost.Goals as goal

pub loop-period-init : goal.loop-period-init
unfolding sum_over
loop-period-init g c = record { sum = λ k. refl; few = omega arith; asked = asked-none _ g.met.S.Shelf.same_yet _ }

pub loop-period-preserved : goal.loop-period-preserved
loop-period-preserved g c =
    let was = c.loop-period.invariant in
    let one = asked-once _ _ _ _ c.in_ok-wh.ensures.question in
    let both = asked-then _ g.met.S.Shelf.same_then _ _ _ _ was.asked one in
    let file = c.args.book.now.office in
    let records = (g.S.Shelf.state c.args.book.now.shelf).content.records in
    let o = c.args.owner in
    let b = c.args.band.0 in
    let d = c.args.direction in
    let f : ℕ → ℕ = λ p. price_at file p b d * energy_in_period (office_of file) records o p b d in
    let period = c.loop-period.period in
    let named : c.office-in-loop-period.result.now ≡ file = c.office-in-loop-period.ensures ∙ both.office in
    record {
      sum = λ k.
          let prior = one.kept.clean k in
          let same = ap (λ (x : ShelfContent). x.records) (was.asked.content prior) in
          let p : c.price.result ≡ price_at file period b d = c.price.ensures.price ∙ ap (λ (x : OfficeFile). price_at x period b d) named in
          let q : c.in_ok-wh.wh ≡ energy_in_period (office_of file) records o period b d =
          c.in_ok-wh.ensures.energy k ∙ (λ i. energy_in_period (office_of (was.asked.office i)) (same i) o period b d) in
          let here : c.price_of-nano.result ≡ f period = c.price_of-nano.ensures.price ∙ (λ i. p i * q i) in
          let so_far = was.sum prior in
          let next = sum-next f period in
          omega (arith, here, so_far, next);
      few = let a = was.few in let e = c.price_of-nano.ensures.bound in omega (arith, a, e);
      asked = both;
    }

pub returns-clause-cost : goal.returns-clause-cost
unfolding energy_cost
returns-clause-cost g c = λ k.
    let file = c.args.book.now.office in
    let records = (g.S.Shelf.state c.args.book.now.shelf).content.records in
    let f : ℕ → ℕ = λ p. price_at file p c.args.band.0 c.args.direction * energy_in_period (office_of file) records c.args.owner p c.args.band.0 c.args.direction in
    let same = ap (λ (x : OfficeFile). periods_in x) c.office.ensures in
    let all : c.loop-period.period ≡ periods_in file = omega (arith, same, c.periods-period-end.ensures.count, c.loop-period.auto.period-end, c.loop-period-test.false) in
    c.loop-period.invariant.sum k ∙ ap (sum_over f 0) all
