use Rattle.pw_model.proofs.Bearing.{one-more_payment}
use Rattle.pw_model.proofs.laws.one_more_payment.Goals as goal

pub returns : goal.returns
returns c = one-more_payment
