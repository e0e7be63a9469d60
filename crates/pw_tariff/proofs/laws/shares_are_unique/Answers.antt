use Rattle.pw_tariff.proofs.OneWay.{one-way}
use Rattle.pw_tariff.proofs.laws.shares_are_unique.Goals as goal

pub returns : goal.returns
returns c = one-way
