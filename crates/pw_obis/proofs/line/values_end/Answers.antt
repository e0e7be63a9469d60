use Rattle.std.proofs.Common.{◌∙◌, sym, arith}
use Rattle.pw_obis.specs.lemmas.Places.{along_more, along_end, along_stuck}
use Rattle.pw_obis.proofs.line.values_end.Goals as goal

pub returns-in_err-to-clause-none : goal.returns-in_err-to-clause-none
returns-in_err-to-clause-none c = rw c.from_residual.ensures λ n t w. c.in_err-to.ensures.none w.0 w.1

pub returns-in_err-to-2-clause-none : goal.returns-in_err-to-2-clause-none
returns-in_err-to-2-clause-none c =
    rw c.from_residual-in_err-to-2.ensures
    (along_stuck c.args.block.now c.args.from c.loop-to.to c.loop-to.invariant.2 (sym c.byte_at.ensures ∙ c.loop-to-test.true) c.in_err-to-2.ensures.none)

pub loop-to-preserved : goal.loop-to-preserved
loop-to-preserved c = (
  omega (arith, c.in_ok-to-2.ensures.within),
  c.in_ok-to-2.ensures.within.1,
  along_more c.args.block.now c.args.from c.loop-to.to c.in_ok-to-2.to c.in_ok-to-2.ensures.some c.loop-to.invariant.2,
)

pub returns-clause-some : goal.returns-clause-some
returns-clause-some c = along_end c.args.block.now c.args.from c.loop-to.to c.loop-to.invariant.2 (λ e. c.loop-to-test.false (c.byte_at.ensures ∙ e))
