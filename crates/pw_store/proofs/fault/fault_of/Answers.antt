use Rattle.std.proofs.Common.{rules}
use Rattle.pw_store.proofs.fault.fault_of.Goals as goal

pub returns-in-SqliteFailure-OutOfMemory : goal.returns-in-SqliteFailure-OutOfMemory
returns-in-SqliteFailure-OutOfMemory c = search rules depth 0 fits 100
