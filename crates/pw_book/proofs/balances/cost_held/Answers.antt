use Rattle.std.proofs.Common.{◌≡◌, ℕ, Some, length, refl, ap, ◌∙◌, arith}
use Rattle.pw_flow.specs.Time.{sum_over}
use Rattle.pw_tariff.specs.Office.{office_of, periods_in}
use Rattle.pw_model.specs.Counting.{contents_at}
use Rattle.pw_model.specs.Energy.{cost}
use Rattle.pw_model.specs.Shelf.{ShelfContent}
use Rattle.pw_model.specs.inner.Tariff.{period_cost}
use Rattle.pw_model.proofs.PlainEnergy.{sum-more}
use Rattle.pw_book.proofs.ByParts.{part-all, part-more}
use Rattle.pw_book.proofs.Chains.{asked-none, asked-then, asked-true}
use Rattle.pw_book.proofs.balances.cost_held.Goals as goal

pub loop-period-init : goal.loop-period-init
unfolding sum_over
loop-period-init g c = record { sum = λ k. refl; few = omega arith; tally = omega arith; asked = asked-none _ g.met.S.Shelf.same_yet _ }

pub cost_in_period-requires-clause-truth : goal.cost_in_period-requires-clause-truth
cost_in_period-requires-clause-truth g c = asked-true g.S.Shelf (office_of c.args.office.now) _ _ c.requires.truth c.loop-period.invariant.asked

pub returns-in_err-part-clause-tally : goal.returns-in_err-part-clause-tally
returns-in_err-part-clause-tally g c =
    part-more _ _ _ (length c.args.office.now.bands) c.loop-period.period (periods_in c.args.office.now) c.loop-period.invariant.tally c.cost_in_period.ensures.tally
    (omega (arith, c.periods-period-end.ensures.count, c.loop-period-test.true))

pub loop-period-preserved : goal.loop-period-preserved
loop-period-preserved g c =
    let was = c.loop-period.invariant in
    record {
      sum = λ k.
          let before = c.cost_in_period.ensures.asked.kept.clean k in
          let cost_at : ShelfContent → ℕ → ℕ = λ d p. period_cost (office_of c.args.office.now) (contents_at d.records) (Some c.args.account) p c.args.direction in
          let same = ap (λ (d : ShelfContent). cost_at d c.loop-period.period) (was.asked.content before) in
          let more = sum-more (cost_at (g.S.Shelf.state c.args.shelf.now).content) c.loop-period.period c.loop-period.nano c.in_ok-part.part (was.sum before) (c.in_ok-part.ensures.cost k ∙ same) in
          omega (arith, more);
      few = let a = was.few in let b = c.in_ok-part.ensures.bound in omega (arith, a, b);
      tally = let a = was.tally in let b = c.cost_in_period.ensures.tally in omega (arith, a, b);
      asked = asked-then _ g.met.S.Shelf.same_then _ _ _ _ was.asked c.in_ok-part.ensures.asked;
    }

pub returns-clause-cost : goal.returns-clause-cost
unfolding cost
returns-clause-cost g c = λ k.
    let office = office_of c.args.office.now in
    let was = (g.S.Shelf.state c.args.shelf.now).content in
    let f : ℕ → ℕ = λ p. period_cost office (contents_at was.records) (Some c.args.account) p c.args.direction in
    let all : c.loop-period.period ≡ office.periods = omega (arith, c.periods-period-end.ensures.count, c.loop-period.auto.period-end, c.loop-period-test.false) in
    c.loop-period.invariant.sum k ∙ ap (sum_over f 0) all

pub returns-clause-tally : goal.returns-clause-tally
returns-clause-tally g c =
    part-all _ _ (length c.args.office.now.bands) c.loop-period.period (periods_in c.args.office.now) c.loop-period.invariant.tally
    (omega (arith, c.periods-period-end.ensures.count, c.loop-period.auto.period-end))
