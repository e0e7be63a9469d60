use Rattle.std.proofs.Common.{◌+◌, ap, ◌∙◌}
use Rattle.std.proofs.lemmas.Result.{on_ok_weaker}
use Rattle.pw_parts.specs.inner.Totals.{total_in}
use Rattle.pw_parts.proofs.Meters.{paid-is}
use Rattle.pw_parts.proofs.payments.add_payment.Goals as goal

pub returns : goal.returns
returns c = on_ok_weaker c.add.result (λ h k. h k ∙ ap (λ n. total_in c.args.totals.now.rows k + n) (paid-is c.args.entry.now c.in-TopUp.account c.in-TopUp.cents c.from.result c.in-TopUp.instant k c.in-TopUp.is c.from.ensures)) c.add.ensures.gathered
