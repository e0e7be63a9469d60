use Rattle.std.proofs.Common.{◌≡◌, ℕ, refl, ap, sym, ◌∙◌, arith}
use Rattle.pw_flow.specs.Time.{sum_over}
use Rattle.pw_tariff.specs.Office.{office_of}
use Rattle.pw_model.specs.Energy.{energy, energy_in_period, of_band}
use Rattle.pw_model.specs.Shelf.{ShelfContent}
use Rattle.pw_model.proofs.Periods.{energy-of_periods}
use Rattle.pw_model.proofs.PlainEnergy.{energy-fits, sum-more}
use Rattle.pw_model.proofs.SoundOffice.{sound-office}
use Rattle.pw_book.proofs.Chains.{asked-none, asked-then, asked-true}
use Rattle.pw_book.proofs.energies.energy_held.Goals as goal

pub loop-period-init : goal.loop-period-init
unfolding sum_over
loop-period-init g c = record { sum = λ k. refl; few = omega arith; tally = omega arith; asked = asked-none _ g.met.S.Shelf.same_yet _ }

pub energy_in_held-requires-clause-truth : goal.energy_in_held-requires-clause-truth
energy_in_held-requires-clause-truth g c = asked-true g.S.Shelf (office_of c.args.office.now) _ _ c.requires.truth c.loop-period.invariant.asked

pub loop-period-preserved : goal.loop-period-preserved
loop-period-preserved g c =
    let was = c.loop-period.invariant in
    let wide = c.from-sum.ensures in
    record {
      sum = λ k.
          let before = c.energy_in_held.ensures.asked.kept.clean k in
          let energy_at : ShelfContent → ℕ → ℕ = λ d p. energy_in_period (office_of c.args.office.now) d.records c.args.owner p c.args.band.0 c.args.direction in
          let same = ap (λ (d : ShelfContent). energy_at d c.loop-period.period) (was.asked.content before) in
          let more = sum-more (energy_at (g.S.Shelf.state c.args.shelf.now).content) c.loop-period.period c.loop-period.sum c.from-sum.result (was.sum before) (wide ∙ c.in_ok-wh.ensures.energy k ∙ same) in
          omega (arith, more);
      few = let a = was.few in omega (arith, a, wide);
      tally = let a = was.tally in let b = c.energy_in_held.ensures.tally in omega (arith, a, b);
      asked = asked-then _ g.met.S.Shelf.same_then _ _ _ _ was.asked c.in_ok-wh.ensures.asked;
    }

-- no more than all records can give
pub returns-clause-energy : goal.returns-clause-energy
returns-clause-energy g c = λ k.
    let before = c.loop-period.invariant.asked.kept.clean k in
    let office = office_of c.args.office.now in
    let was = (g.S.Shelf.state c.args.shelf.now).content in
    let f : ℕ → ℕ = λ p. energy_in_period office was.records c.args.owner p c.args.band.0 c.args.direction in
    let sound = sound-office c.args.office.now c.periods-period-end.ensures.sound in
    let all : c.loop-period.period ≡ office.periods = omega (arith, c.periods-period-end.ensures.count, c.loop-period.auto.period-end, c.loop-period-test.false) in
    let whole : c.loop-period.sum ≡ energy office was.records c.args.owner c.args.band.0 c.args.direction =
    c.loop-period.invariant.sum k ∙ ap (sum_over f 0) all ∙ sym (energy-of_periods office was.records c.args.owner c.args.band.0 c.args.direction sound.period) in
    let fits = energy-fits office was.records c.args.direction (of_band office c.args.owner c.args.band.0) sound (c.requires.of_office before) (c.requires.few before) in
    c.capped.ensures (omega (arith, whole, fits)) ∙ whole
