use Rattle.std.proofs.Common.{ap, ◌∙◌}
use Rattle.pw_model.specs.Payments.{cents_for}
use Rattle.pw_model.proofs.Payments.{none-told}
use Rattle.pw_model.proofs.plain.payments.cents_at.Goals as goal

pub returns-in-One : goal.returns-in-One
returns-in-One c = c.cents_in.ensures ∙ ap (cents_for c.args.account.0) c.in-One.ensures

pub returns-in_default : goal.returns-in_default
returns-in_default c = none-told c.args.account.0 c.contents_at.result c.in_default.not-One ∙ ap (cents_for c.args.account.0) c.contents_at.ensures
