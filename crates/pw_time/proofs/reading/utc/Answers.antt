use Rattle.std.proofs.Common.{rules}
use Rattle.pw_time.proofs.reading.utc.Goals as goal

pub returns-in-Some : goal.returns-in-Some
returns-in-Some c = search rules depth 3 fits 300
