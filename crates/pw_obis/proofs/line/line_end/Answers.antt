use Rattle.std.proofs.Common.{◌∙◌, sym, arith}
use Rattle.pw_obis.specs.lemmas.Places.{ahead_more, ahead_end, ahead_stuck, ahead_no_line}
use Rattle.pw_obis.proofs.line.line_end.Goals as goal

pub returns-in_err-at-clause-none : goal.returns-in_err-at-clause-none
returns-in_err-at-clause-none c =
    rw c.from_residual.ensures
    (ahead_stuck c.args.block.now c.args.from c.loop-at.at c.loop-at.invariant.2 (λ e. c.loop-at-test.true (c.byte_at.ensures ∙ e)) c.in_err-at.ensures.none)

pub loop-at-preserved : goal.loop-at-preserved
loop-at-preserved c = (
  omega (arith, c.in_ok-at.ensures.within),
  c.in_ok-at.ensures.within.2,
  ahead_more c.args.block.now c.args.from c.loop-at.at c.in_ok-at.field-0.0 c.in_ok-at.field-0.1 c.in_ok-at.ensures.some c.loop-at.invariant.2,
)

pub returns-then-byte_at-eq10-clause-some : goal.returns-then-byte_at-eq10-clause-some
returns-then-byte_at-eq10-clause-some c =
    ahead_end c.args.block.now c.args.from c.loop-at.at c.loop-at.invariant.2 (sym c.byte_at.ensures ∙ c.loop-at-test.false) (sym c.byte_at-2.ensures ∙ c.if-byte_at-eq10.true)

pub returns-else-byte_at-eq10-clause-none : goal.returns-else-byte_at-eq10-clause-none
returns-else-byte_at-eq10-clause-none c =
    ahead_no_line c.args.block.now c.args.from c.loop-at.at c.loop-at.invariant.2 (sym c.byte_at.ensures ∙ c.loop-at-test.false) (λ e. c.if-byte_at-eq10.false (c.byte_at-2.ensures ∙ e))
