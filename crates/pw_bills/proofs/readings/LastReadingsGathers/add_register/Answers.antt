use Rattle.std.proofs.Common.{rules}
use Rattle.pw_bills.proofs.readings.LastReadingsGathers.add_register.Goals as goal

pub returns-clause-added : goal.returns-clause-added
returns-clause-added g c = search rules depth 0 fits 100
