use Rattle.std.proofs.Common.{◌∙◌}
use Rattle.pw_model.proofs.InKeyOrder.{entries-ordered}
use Rattle.pw_model.proofs.compare.compare_entries.Goals as goal

pub returns : goal.returns
returns c = c.cmp.ensures ∙ entries-ordered c.args.a.now c.args.b.now c.read_reference.ensures c.read_reference-2.ensures
