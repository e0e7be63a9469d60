use Rattle.std.proofs.Common.{◌≡◌, ℕ, ◌+◌, subst, arith}
use Rattle.pw_book.proofs.Chains.{asked-none, asked-then}
use Rattle.pw_book.proofs.Segments.{place-at}
use Rattle.pw_bills.specs.inner.Gathering.{Pass, RegisterStep, Steps, counted_reads, pass_of}
use Rattle.pw_bills.proofs.Reading.{register-failed, register-read, registers-read}
use Rattle.pw_bills.proofs.StepByStep.{steps-more, steps-none}
use Rattle.pw_bills.proofs.There.{asked-able, register-adds_there, register-read_there}
use Rattle.pw_bills.proofs.gathering.gather_registers.Goals as goal

pub loop-register-init : goal.loop-register-init
loop-register-init g c = record {
  few = λ n f. (n, omega arith, f);
  steps = λ k s n. steps-none _ c.args.gathered.now;
  tally = λ k each h. omega arith;
  asked = asked-none _ g.met.S.Shelf.same_yet _;
}

pub gather_register-requires-clause-able : goal.gather_register-requires-clause-able
gather_register-requires-clause-able g c = asked-able g.S.Shelf _ _ _ _ _ _ c.loop-register.invariant.asked c.requires.able

pub gather_register-requires-clause-few : goal.gather_register-requires-clause-few
gather_register-requires-clause-few g c =
    let b = c.requires.few.1 in
    let f = c.loop-register.invariant.few c.requires.few.0 c.requires.few.2 in
    let n = f.1 in
    let l = c.loop-register-test.true in
    (f.0, omega (arith, b, n, l), f.2)

pub loop-register-preserved : goal.loop-register-preserved
loop-register-preserved g c =
    let q : Pass = pass_of c.args.basis.now.office.now (g.S.Shelf.state c.args.shelf.now).content c.args.stretches.now.account c.args.stretches.now.begins.now (c.args.stretches.now.last + 1) in
    let was = c.loop-register.invariant in
    record {
      few = λ n f.
          let h = was.few n f in
          let b = h.1 in
          let k = c.in_ok-gather_register.ensures.few h.0 h.2 in
          let d = k.1 in
          (k.0, omega (arith, b, d), k.2);
      steps = λ k s n.
          let before = c.gather_register.ensures.asked.kept.clean k in
          let here = register-adds_there g.G.Gathers.adds q _ c.args.meter.0 c.args.owners.now c.loop-register.register-index _ c.loop-register.gathered c.gather_register.new.gathered
          (was.asked.content before) (place-at c.loop-register.register-index _ c.loop-register-test.true) (c.in_ok-gather_register.ensures.step k) s n in
          steps-more (RegisterStep g.G.Gathers.adds q c.args.meter.0) c.loop-register.register-index c.args.gathered.now c.loop-register.gathered c.gather_register.new.gathered (was.steps before s n) here;
      tally = λ k each h.
          let before = c.gather_register.ensures.asked.kept.clean k in
          let here = register-read_there g.G.Gathers.reads q _ c.args.meter.0 _ each _ _ (was.asked.content before) (c.gather_register.ensures.tally k) (h _) in
          register-read (counted_reads c.args.basis.now.office.now c.args.meter.0 each) c.loop-register.register-index _ _ _ _ c.loop-register-test.true (was.tally before each h) here;
      asked = asked-then _ g.met.S.Shelf.same_then _ _ _ _ was.asked c.in_ok-gather_register.ensures.asked;
    }

pub returns-in_err-gather_register-clause-tally : goal.returns-in_err-gather_register-clause-tally
returns-in_err-gather_register-clause-tally g c = λ k each h.
    let q : Pass = pass_of c.args.basis.now.office.now (g.S.Shelf.state c.args.shelf.now).content c.args.stretches.now.account c.args.stretches.now.begins.now (c.args.stretches.now.last + 1) in
    let before = c.gather_register.ensures.asked.kept.clean k in
    let was = c.loop-register.invariant in
    let here = register-read_there g.G.Gathers.reads q _ c.args.meter.0 _ each _ _ (was.asked.content before) (c.gather_register.ensures.tally k) (h _) in
    register-failed (counted_reads c.args.basis.now.office.now c.args.meter.0 each) c.loop-register.register-index _ _ _ _ c.loop-register-test.true (was.tally before each h) here

pub returns-clause-few : goal.returns-clause-few
returns-clause-few g c = λ n f.
    let h = c.loop-register.invariant.few n f in
    let b = h.1 in
    let e = c.loop-register.auto.register-index-end in
    (h.0, omega (arith, b, e), h.2)

pub returns-clause-steps : goal.returns-clause-steps
returns-clause-steps g c = λ k s n.
    let q : Pass = pass_of c.args.basis.now.office.now (g.S.Shelf.state c.args.shelf.now).content c.args.stretches.now.account c.args.stretches.now.begins.now (c.args.stretches.now.last + 1) in
    let l = c.loop-register-test.false in
    let e = c.loop-register.auto.register-index-end in
    let all : c.loop-register.register-index ≡ 6 = omega (arith, l, e) in
    let P : ℕ → Type 0 = λ i. Steps (RegisterStep g.G.Gathers.adds q c.args.meter.0) i c.args.gathered.now c.loop-register.gathered in
    subst P all (c.loop-register.invariant.steps k s n)

pub returns-clause-tally : goal.returns-clause-tally
returns-clause-tally g c = λ k each h.
    registers-read (counted_reads c.args.basis.now.office.now c.args.meter.0 each) c.loop-register.register-index _ _ c.loop-register-test.false c.loop-register.auto.register-index-end (c.loop-register.invariant.tally k each h)
