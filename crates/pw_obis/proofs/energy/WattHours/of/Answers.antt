use Rattle.std.proofs.Common.{rules}
use Rattle.pw_obis.proofs.energy.WattHours.of.Goals as goal

pub returns-else-value-le-LARGEST_WATT_HOURS-clause-some : goal.returns-else-value-le-LARGEST_WATT_HOURS-clause-some
returns-else-value-le-LARGEST_WATT_HOURS-clause-some c = search rules depth 0 fits 100
