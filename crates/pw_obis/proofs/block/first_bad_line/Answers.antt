use Rattle.std.proofs.Common.{◌∙◌, sym, ap, arith}
use Rattle.pw_obis.specs.Coming.{Coming}
use Rattle.pw_obis.specs.lemmas.Places.{line_within}
use Rattle.pw_obis.proofs.Taken.{place_bad, place_end, place_line}
use Rattle.pw_obis.proofs.block.first_bad_line.Goals as goal

pub returns-in_default : goal.returns-in_default
returns-in_default c =
    sym (c.loop-at.invariant.1 ∙ ap (λ (k : Coming). k.refusal) (place_bad c.args.block.now c.loop-at.at c.loop-at-test.true c.in_default.ensures.none))

pub loop-at-preserved : goal.loop-at-preserved
loop-at-preserved c =
    let b = c.args.block.now in
    let line = c.in-Some.ensures.some in (
      line_within b c.loop-at.at c.in-Some.end line.0 line.1,
      c.loop-at.invariant.1 ∙ ap (λ (k : Coming). k.refusal) (place_line b c.loop-at.at c.in-Some.end line.0 line.1),
    )

pub returns : goal.returns
returns c =
    sym (c.loop-at.invariant.1 ∙ ap (λ (k : Coming). k.refusal) (place_end c.args.block.now c.loop-at.at (omega (arith, c.loop-at.invariant.0, c.loop-at-test.false))))
