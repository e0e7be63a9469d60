use Rattle.std.proofs.Common.{◌∙◌}
use Rattle.pw_model.proofs.Alike.{keys-alike}
use Rattle.pw_model.proofs.compare.is_same_key.Goals as goal

pub returns : goal.returns
returns c = c.eq.ensures ∙ keys-alike c.args.a.now c.args.b.now
