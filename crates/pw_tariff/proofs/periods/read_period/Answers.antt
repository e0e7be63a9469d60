use Rattle.std.proofs.Common.{rules}
use Rattle.pw_tariff.proofs.periods.read_period.Goals as goal

pub returns : goal.returns
returns c = search rules depth 3 fits 300
