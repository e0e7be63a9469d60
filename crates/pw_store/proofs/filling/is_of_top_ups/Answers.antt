use Rattle.std.proofs.Common.{rules}
use Rattle.pw_store.proofs.filling.is_of_top_ups.Goals as goal

pub returns-in-Energy : goal.returns-in-Energy
returns-in-Energy c = search rules depth 0 fits 100
