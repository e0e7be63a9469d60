use Rattle.std.proofs.Common.{◌∙◌}
use Rattle.pw_model.proofs.Standing.{withdrawn-keys, unnamed}
use Rattle.pw_parts.proofs.counting.is_withdrawn.Goals as goal

pub returns-in-Some : goal.returns-in-Some
returns-in-Some c = λ r. c.has_key.ensures r ∙ withdrawn-keys c.args.records.now c.args.entry.now c.in-Some.named c.in-Some.ensures

pub returns-in-None : goal.returns-in-None
returns-in-None c = λ r. unnamed c.args.records.now c.args.entry.now c.in-None.ensures
