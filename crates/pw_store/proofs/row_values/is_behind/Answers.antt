use Rattle.std.proofs.Common.{rules}
use Rattle.pw_store.proofs.row_values.is_behind.Goals as goal

pub returns-in-Some : goal.returns-in-Some
returns-in-Some c = search rules depth 0 fits 100
