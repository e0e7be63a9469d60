use Rattle.pw_tariff.proofs.InTime.{period-latest}
use Rattle.pw_tariff.proofs.laws.period_is_the_latest.Goals as goal

pub returns : goal.returns
returns c = period-latest
