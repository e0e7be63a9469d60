use Rattle.std.proofs.Common.{rules}
use Rattle.pw_found.proofs.place.Place.at.Goals as goal

pub returns-in-Err : goal.returns-in-Err
returns-in-Err c = search rules depth 0 fits 100
