use Rattle.std.proofs.Common.{rules}
use Rattle.pw_tariff.proofs.office.Band.price.Goals as goal

pub returns-in-Import : goal.returns-in-Import
returns-in-Import c = search rules depth 0 fits 100

pub returns-in-Export : goal.returns-in-Export
returns-in-Export c = search rules depth 0 fits 100
