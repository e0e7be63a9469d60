use Rattle.std.proofs.Common.{◌≡◌, ℕ, ◌+◌, length, subst, arith}
use Rattle.pw_flow.specs.Time.{sum_over}
use Rattle.pw_tariff.specs.Office.{office_of}
use Rattle.pw_book.proofs.Chains.{asked-none, asked-then}
use Rattle.pw_bills.specs.inner.Gathering.{Pass, MeterAdds, MeterStep, Steps, pass_of}
use Rattle.pw_bills.proofs.Reading.{meter-read, meters-read}
use Rattle.pw_bills.proofs.StepByStep.{steps-more, steps-none}
use Rattle.pw_bills.proofs.There.{asked-able, asked-there, meter-read_there}
use Rattle.pw_bills.proofs.gathering.gather_held.Goals as goal

pub loop-meter-init : goal.loop-meter-init
unfolding sum_over
loop-meter-init g c = record {
  few = (0, omega arith, c.requires.few);
  steps = λ k. steps-none _ c.args.gathered.now;
  tally = λ k most h. omega arith;
  asked = asked-none _ g.met.S.Shelf.same_yet _;
}

pub gather_meter-requires-clause-able : goal.gather_meter-requires-clause-able
gather_meter-requires-clause-able g c =
    let l = c.loop-meter-test.true in
    let n = c.meters-meter-end.ensures.count in
    asked-able g.S.Shelf _ _ _ _ _ _ c.loop-meter.invariant.asked (record { idle = c.requires.idle; stretches = c.requires.stretches; meter = omega (arith, l, n) })

pub gather_meter-requires-clause-few : goal.gather_meter-requires-clause-few
gather_meter-requires-clause-few g c =
    let f = c.loop-meter.invariant.few in
    let b = f.1 in
    let l = c.loop-meter-test.true in
    let n = c.meters-meter-end.ensures.count in
    let s = c.meters-meter-end.ensures.sound.meters.1 in
    (f.0, omega (arith, b, l, n, s), f.2)

pub loop-meter-preserved : goal.loop-meter-preserved
loop-meter-preserved g c =
    let q : Pass = pass_of c.args.basis.now.office.now (g.S.Shelf.state c.args.shelf.now).content c.args.stretches.now.account c.args.stretches.now.begins.now (c.args.stretches.now.last + 1) in
    let was = c.loop-meter.invariant in
    record {
      few =
          let b = was.few.1 in
          let k = c.in_ok-gather_meter.ensures.few was.few.0 was.few.2 in
          let d = k.1 in
          (k.0, omega (arith, b, d), k.2);
      steps = λ k.
          let before = c.gather_meter.ensures.asked.kept.clean k in
          let start = was.asked.kept.clean before in
          let P : Pass → Type 0 = λ z. MeterAdds g.G.Gathers.adds z c.loop-meter.meter c.loop-meter.gathered c.gather_meter.new.gathered in
          steps-more (MeterStep g.G.Gathers.adds q) c.loop-meter.meter c.args.gathered.now c.loop-meter.gathered c.gather_meter.new.gathered
          (was.steps before) (asked-there q _ (was.asked.content before) P (c.in_ok-gather_meter.ensures.step k) (c.requires.sound start));
      tally = λ k most h.
          let before = c.gather_meter.ensures.asked.kept.clean k in
          let start = was.asked.kept.clean before in
          let l = c.loop-meter-test.true in
          let n = c.meters-meter-end.ensures.count in
          let here = meter-read_there g.G.Gathers.reads q _ c.loop-meter.meter (most c.loop-meter.meter) _ _ (was.asked.content before) (c.gather_meter.ensures.tally k) (c.requires.sound start) (h c.loop-meter.meter (omega (arith, l, n))) in
          meter-read most c.loop-meter.meter _ _ _ (was.tally before most h) here;
      asked = asked-then _ g.met.S.Shelf.same_then _ _ _ _ was.asked c.in_ok-gather_meter.ensures.asked;
    }

pub returns-in_err-gather_meter-clause-tally : goal.returns-in_err-gather_meter-clause-tally
returns-in_err-gather_meter-clause-tally g c = λ k most h.
    let q : Pass = pass_of c.args.basis.now.office.now (g.S.Shelf.state c.args.shelf.now).content c.args.stretches.now.account c.args.stretches.now.begins.now (c.args.stretches.now.last + 1) in
    let was = c.loop-meter.invariant in
    let before = c.gather_meter.ensures.asked.kept.clean k in
    let l = c.loop-meter-test.true in
    let n = c.meters-meter-end.ensures.count in
    let here = meter-read_there g.G.Gathers.reads q _ c.loop-meter.meter (most c.loop-meter.meter) _ _ (was.asked.content before) (c.gather_meter.ensures.tally k)
    (c.requires.sound (was.asked.kept.clean before)) (h c.loop-meter.meter (omega (arith, l, n))) in
    meters-read most (c.loop-meter.meter + 1) (office_of q.file).meters _ _ (omega (arith, l, n)) (meter-read most c.loop-meter.meter _ _ _ (was.tally before most h) here)

pub returns-clause-gathered : goal.returns-clause-gathered
returns-clause-gathered g c = λ k.
    let q : Pass = pass_of c.args.basis.now.office.now (g.S.Shelf.state c.args.shelf.now).content c.args.stretches.now.account c.args.stretches.now.begins.now (c.args.stretches.now.last + 1) in
    let start = c.loop-meter.invariant.asked.kept.clean k in
    let n = c.meters-meter-end.ensures.count in
    let e = c.loop-meter.auto.meter-end in
    let l = c.loop-meter-test.false in
    let all : c.loop-meter.meter ≡ length q.file.meters = omega (arith, n, e, l) in
    let P : ℕ → Type 0 = λ m. Steps (MeterStep g.G.Gathers.adds q) m c.args.gathered.now c.loop-meter.gathered in
    record {
      office = c.meters-meter-end.ensures.sound;
      content = c.requires.sound start;
      steps = subst P all (c.loop-meter.invariant.steps k);
    }

pub returns-clause-tally : goal.returns-clause-tally
returns-clause-tally g c = λ k most h.
    let n = c.meters-meter-end.ensures.count in
    let e = c.loop-meter.auto.meter-end in
    meters-read most c.loop-meter.meter (office_of c.args.basis.now.office.now).meters _ _ (omega (arith, n, e)) (c.loop-meter.invariant.tally k most h)
