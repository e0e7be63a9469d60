use Rattle.std.proofs.Common.{◌∙◌}
use Rattle.pw_model.proofs.Alike.{contents-alike}
use Rattle.pw_model.proofs.compare.is_same_content.Goals as goal

pub returns : goal.returns
returns c = c.eq.ensures ∙ contents-alike c.args.a.now c.args.b.now
