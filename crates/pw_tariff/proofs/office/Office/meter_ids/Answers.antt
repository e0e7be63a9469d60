use Rattle.std.proofs.Common.{rules}
use Rattle.pw_tariff.proofs.office.Office.meter_ids.Goals as goal

pub returns : goal.returns
returns c = search rules depth 0 fits 100
