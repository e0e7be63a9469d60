use Rattle.std.proofs.Common.{rules}
use Rattle.pw_store.proofs.calls.rows_in.Goals as goal

pub returns-in-Several : goal.returns-in-Several
returns-in-Several c = search rules depth 0 fits 100
