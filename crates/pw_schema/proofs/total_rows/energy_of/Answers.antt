use Rattle.std.proofs.Common.{rules}
use Rattle.pw_schema.proofs.total_rows.energy_of.Goals as goal

pub returns : goal.returns
returns c = search rules depth 0 fits 100
