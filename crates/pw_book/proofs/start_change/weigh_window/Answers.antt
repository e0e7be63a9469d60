use Rattle.std.proofs.Common.{◌+◌, arith, ◌∙◌}
use Rattle.pw_tariff.specs.Office.{office_of}
use Rattle.pw_parts.specs.declared.changes.Side.TheVariants.{Loses, Gains}
use Rattle.pw_book.specs.inner.Settling.{register_told}
use Rattle.pw_parts.specs.Changes.{gathered}
use Rattle.pw_book.proofs.Chains.{kept-then}
use Rattle.pw_book.proofs.StartChanged.{all-moved, changed-there, moved-more, tally-all, tally-more, tally-there}
use Rattle.pw_book.proofs.start_change.weigh_window.Goals as goal

pub returns-in_err-add_register-clause-tally : goal.returns-in_err-add_register-clause-tally
returns-in_err-add_register-clause-tally g c = λ k points w h.
    let before = c.add_register.ensures.kept.clean k in
    let here = tally-there _ _ _ _ _ _ points _ _ (c.loop-register.invariant.same before) (c.add_register.ensures.tally k) w h in
    let l = c.loop-register-test.true in
    tally-all points (c.loop-register.register-index + 1) _ _ (omega (arith, l)) (tally-more points c.loop-register.register-index _ _ _ _ l (c.loop-register.invariant.tally before points w h) here)

pub loop-register-preserved : goal.loop-register-preserved
loop-register-preserved g c = record {
  few = λ side t. (let a = c.loop-register.invariant.few side t in let b = c.in_ok-add_register.ensures.few side t in omega (arith, a, b));
  moved = λ k was is h t.
      let before = c.add_register.ensures.kept.clean k in
      let office = office_of c.args.basis.now.office.now in
      let there = changed-there _ _ was is _ _ _ _ _ (c.loop-register.invariant.same before) h in
      moved-more (register_told office was c.args.window.now.meter.0 t) (register_told office is c.args.window.now.meter.0 t) c.loop-register.register-index _ _ _ _ _ c.loop-register-test.true
      (c.loop-register.invariant.moved before was is h t) (c.in_ok-add_register.ensures.moved k was is there t);
  same = λ k. c.in_ok-add_register.ensures.same k ∙ c.loop-register.invariant.same (c.add_register.ensures.kept.clean k);
  tally = λ k points w h.
      let before = c.add_register.ensures.kept.clean k in
      let here = tally-there _ _ _ _ _ _ points _ _ (c.loop-register.invariant.same before) (c.add_register.ensures.tally k) w h in
      tally-more points c.loop-register.register-index _ _ _ _ c.loop-register-test.true (c.loop-register.invariant.tally before points w h) here;
  kept = kept-then _ _ _ _ g.met.S.Shelf.same_then _ _ _ _ c.loop-register.invariant.kept c.in_ok-add_register.ensures.kept;
}

pub returns-clause-moved : goal.returns-clause-moved
returns-clause-moved g c = λ k was is h.
    all-moved (office_of c.args.basis.now.office.now) was is c.args.window.now.meter.0 c.args.window.now.from c.loop-register.register-index (gathered Loses c.loop-register.changes.rows) (gathered Gains c.loop-register.changes.rows) h.other c.requires.meter
    c.loop-register-test.false c.loop-register.auto.register-index-end (c.loop-register.invariant.moved k was is h)

pub returns-clause-tally : goal.returns-clause-tally
returns-clause-tally g c = λ k points w h. tally-all points c.loop-register.register-index _ _ c.loop-register.auto.register-index-end (c.loop-register.invariant.tally k points w h)
