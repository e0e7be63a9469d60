use Rattle.std.proofs.Common.{rules}
use Rattle.pw_schema.proofs.conflicts.is_without_conflict.Goals as goal

pub returns-in-Ok-Text : goal.returns-in-Ok-Text
returns-in-Ok-Text c = search rules depth 0 fits 100
