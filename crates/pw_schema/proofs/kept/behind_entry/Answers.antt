use Rattle.std.proofs.Common.{rules}
use Rattle.pw_schema.proofs.kept.behind_entry.Goals as goal

pub returns-then-is_same_entry : goal.returns-then-is_same_entry
returns-then-is_same_entry c = search rules depth 0 fits 100
