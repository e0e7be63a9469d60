use Rattle.std.proofs.Common.{ℕ, subst}
use Rattle.pw_obis.specs.Line.{ValuesAt}
use Rattle.pw_obis.specs.lemmas.Places.{one_text}
use Rattle.std.proofs.Common.{suc}
use Rattle.pw_obis.proofs.line.set_end.Goals as goal

pub returns-in_err-to-clause-none : goal.returns-in_err-to-clause-none
returns-in_err-to-clause-none c = rw c.from_residual.ensures λ mid to s.
    c.in_err-to.ensures.none s.others to
    (subst (λ (k : ℕ). ValuesAt c.args.block.now (suc s.others) k to) (one_text c.args.block.now c.args.from mid c.text_end-mid.result s.address c.text_end-mid.ensures.text) s.values)
