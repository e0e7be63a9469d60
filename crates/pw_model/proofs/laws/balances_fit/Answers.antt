use Rattle.pw_model.proofs.PlainEnergy.{balance-fits}
use Rattle.pw_model.proofs.laws.balances_fit.Goals as goal

pub returns : goal.returns
returns c = balance-fits
