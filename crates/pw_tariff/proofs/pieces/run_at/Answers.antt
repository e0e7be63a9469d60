use Rattle.std.proofs.Common.{◌≡◌, rules, arith}
use Rattle.pw_tariff.proofs.Runs.{part-of_class, joined}
use Rattle.pw_tariff.proofs.pieces.run_at.Goals as goal

pub loop-until-init : goal.loop-until-init
loop-until-init c = record {
  begun = c.part_end-until.ensures.begun;
  within = c.part_end-until.ensures.within;
  same = part-of_class _ _ _ _ _ _ c.class_at-class.ensures.sound c.class_at-class.ensures.class c.part_end-until.ensures;
}

pub loop-until-preserved : goal.loop-until-preserved
loop-until-preserved c =
    let same : c.class_at-next.result ≡ c.class_at-class.result = search rules in
    let here = rw same at c.class_at-next.ensures.class in
    let more = c.part_end-until-in-loop-until.ensures.begun in
    record {
      begun = omega (arith, more);
      within = c.part_end-until-in-loop-until.ensures.within;
      same = joined _ _ _ _ _ _ c.loop-until.invariant.same (part-of_class _ _ _ _ _ _ c.class_at-class.ensures.sound here c.part_end-until-in-loop-until.ensures);
    }

pub returns-then-ne : goal.returns-then-ne
returns-then-ne c = search rules depth 3 fits 300
