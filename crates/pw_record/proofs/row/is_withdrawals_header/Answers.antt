use Rattle.std.proofs.Common.{rules}
use Rattle.pw_record.proofs.row.is_withdrawals_header.Goals as goal

pub returns-then-not-begins_with : goal.returns-then-not-begins_with
returns-then-not-begins_with c = search rules depth 0 fits 100
