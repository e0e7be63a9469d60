use Rattle.std.proofs.Common.{rules}
use Rattle.pw_schema.proofs.values.owner_place.Goals as goal

pub returns-in-Some : goal.returns-in-Some
returns-in-Some c = search rules depth 0 fits 100
