use Rattle.std.proofs.Common.{rules}
use Rattle.pw_schema.proofs.table.StoreTable.of.Goals as goal

pub returns-in-First-clause-tables : goal.returns-in-First-clause-tables
returns-in-First-clause-tables c = search rules depth 0 fits 100

pub returns-in-Second-clause-tables : goal.returns-in-Second-clause-tables
returns-in-Second-clause-tables c = search rules depth 0 fits 100
