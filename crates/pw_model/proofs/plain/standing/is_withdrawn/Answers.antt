use Rattle.std.proofs.Common.{◌∙◌}
use Rattle.pw_model.proofs.Standing.{withdrawn-keys, unnamed}
use Rattle.pw_model.proofs.plain.standing.is_withdrawn.Goals as goal

pub returns-in-Some : goal.returns-in-Some
returns-in-Some c = c.has_key.ensures ∙ withdrawn-keys c.args.in_order.now c.args.entry.now c.in-Some.named c.in-Some.ensures

pub returns-in-None : goal.returns-in-None
returns-in-None c = unnamed c.args.in_order.now c.args.entry.now c.in-None.ensures
