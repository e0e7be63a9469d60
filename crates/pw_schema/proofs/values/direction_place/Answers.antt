use Rattle.std.proofs.Common.{rules}
use Rattle.pw_schema.proofs.values.direction_place.Goals as goal

pub returns-in-Export : goal.returns-in-Export
returns-in-Export c = search rules depth 0 fits 100
