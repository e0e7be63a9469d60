use Rattle.std.proofs.Common.{◌∙◌, arith}
use Rattle.pw_obis.proofs.Taken.{has_line, none_left, place_empty}
use Rattle.pw_obis.proofs.block.next_place.Goals as goal

pub loop-at-preserved : goal.loop-at-preserved
loop-at-preserved c =
    let b = c.args.block.now in
    let i = c.loop-at.invariant in
    let line = has_line b c.loop-at.at c.args.stop i.0 c.loop-at-test.true in
    let e = place_empty b c.loop-at.at line.0 line.1 line.2 c.if-block-at-eq13.true in
    ((e.0, rw e.1 at i.0.1), i.1 ∙ e.1)

pub returns-else-block-at-eq13 : goal.returns-else-block-at-eq13
returns-else-block-at-eq13 c =
    let b = c.args.block.now in
    let i = c.loop-at.invariant in
    record {
      lines = i.0;
      same = i.1;
      set = λ _. (has_line b c.loop-at.at c.args.stop i.0 c.loop-at-test.true, c.if-block-at-eq13.false);
      none = λ past. absurd (omega (arith, past, c.loop-at-test.true));
    }

pub returns-after-loop-at : goal.returns-after-loop-at
returns-after-loop-at c =
    let i = c.loop-at.invariant in
    record {
      lines = i.0;
      same = i.1;
      set = λ before. absurd (omega (arith, before, c.loop-at-test.false));
      none = none_left c.args.block.now c.loop-at.at c.args.stop i.0;
    }
