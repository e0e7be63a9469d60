use Rattle.std.proofs.Common.{◌≡◌, ℕ, ◌+◌, ◌*◌, refl, ap, arith}
use Rattle.pw_tariff.specs.Office.{office_of}
use Rattle.pw_book.proofs.Chains.{asked-then}
use Rattle.pw_book.proofs.Fallen.{falls-next, falls-at, falls-all, tells-points}
use Rattle.pw_book.proofs.falls.falls_held.Goals as goal

pub loop-meter-preserved : goal.loop-meter-preserved
loop-meter-preserved g c = record {
  falls = λ k.
      let before = c.add_meter.ensures.asked.kept.clean k in
      let start = c.loop-meter.invariant.asked.kept.clean before in
      falls-next _ _ (6 * c.loop-meter.meter) (6 * c.loop-meter.meter) (6 * c.loop-meter.meter + 6) (6 * (c.loop-meter.meter + 1)) c.loop-meter.falls.items c.add_meter.new.falls.items
      (c.loop-meter.invariant.asked.content before) refl (omega arith) (tells-points (office_of c.args.office.now) _ (c.requires.of_office start) (c.requires.truth start)) (c.loop-meter.invariant.falls before) (c.in_ok-add_meter.ensures.falls k);
  asked = asked-then _ g.met.S.Shelf.same_then _ _ _ _ c.loop-meter.invariant.asked c.in_ok-add_meter.ensures.asked;
}

pub returns-clause-falls : goal.returns-clause-falls
returns-clause-falls g c = λ k.
    let start = c.loop-meter.invariant.asked.kept.clean k in
    let office = office_of c.args.office.now in
    let all : c.loop-meter.meter ≡ office.meters = omega (arith, c.meters-meter-end.ensures.count, c.loop-meter.auto.meter-end, c.loop-meter-test.false) in
    falls-all office _ c.loop-meter.falls.items (c.requires.of_office start) (falls-at _ _ _ c.loop-meter.falls.items (ap (λ (n : ℕ). 6 * n) all) (c.loop-meter.invariant.falls k))
