use Rattle.std.proofs.Common.{rules}
use Rattle.pw_record.proofs.row.named_kind.Goals as goal

pub returns-then-begins_with-3-clause-some : goal.returns-then-begins_with-3-clause-some
returns-then-begins_with-3-clause-some c = search rules depth 0 fits 100
