use Rattle.std.proofs.Common.{rules}
use Rattle.pw_shelf.proofs.table.Table.put.Goals as goal

pub returns-in_err-note-clause-refused : goal.returns-in_err-note-clause-refused
returns-in_err-note-clause-refused g c = search rules depth 0 fits 100
