use Rattle.std.proofs.Common.{rules}
use Rattle.pw_model.proofs.records.Named.entry.Goals as goal

pub returns-in-Assignment : goal.returns-in-Assignment
returns-in-Assignment c = search rules depth 0 fits 100
