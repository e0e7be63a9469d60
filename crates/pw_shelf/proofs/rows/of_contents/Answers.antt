use Rattle.std.proofs.Common.{rules}
use Rattle.pw_shelf.proofs.rows.of_contents.Goals as goal

pub returns-in-Ok-Several : goal.returns-in-Ok-Several
returns-in-Ok-Several c = search rules depth 0 fits 100
