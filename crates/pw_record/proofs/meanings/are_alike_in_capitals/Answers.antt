use Rattle.std.proofs.Common.{refl, sym, ◌∙◌, arith, below_more}
use Rattle.pw_record.proofs.Capitals.{alike-capitals, alike-at}
use Rattle.pw_record.proofs.meanings.are_alike_in_capitals.Goals as goal

pub returns-then-capital : goal.returns-then-capital
returns-then-capital c = (
  λ h. absurd cc,
  λ e. absurd (c.if-capital.true (c.capital.ensures ∙ alike-at c.args.one.now c.args.other.now c.loop-i.i (omega arith) e ∙ sym c.capital-in-loop-i.ensures)),
)

pub loop-i-preserved : goal.loop-i-preserved
loop-i-preserved c = below_more _ _ c.loop-i.invariant (sym c.capital.ensures ∙ c.if-capital.false ∙ c.capital-in-loop-i.ensures)

pub returns : goal.returns
returns c = (
  λ h. alike-capitals c.args.one.now c.args.other.now (omega arith) (λ k l. c.loop-i.invariant k (omega arith)),
  λ e. refl,
)
