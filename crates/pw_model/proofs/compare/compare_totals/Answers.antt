use Rattle.std.proofs.Common.{◌∙◌}
use Rattle.pw_model.proofs.InKeyOrder.{totals-ordered}
use Rattle.pw_model.proofs.compare.compare_totals.Goals as goal

pub returns : goal.returns
returns c = c.cmp.ensures ∙ totals-ordered c.args.a.now c.args.b.now
