use Rattle.std.proofs.Common.{◌∙◌}
use Rattle.pw_model.proofs.Alike.{entries-alike}
use Rattle.pw_model.proofs.compare.is_same_entry.Goals as goal

pub returns : goal.returns
returns c = c.eq.ensures ∙ entries-alike c.args.a.now c.args.b.now
