use Rattle.std.proofs.Common.{rules}
use Rattle.pw_tariff.proofs.ids.Direction.name.Goals as goal

pub returns-in-Import : goal.returns-in-Import
returns-in-Import c = search rules depth 0 fits 100
