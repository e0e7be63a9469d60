-- What private calls ask of a connection, and what they leave of it. It serves `src/conflicts.rt`, `src/make.rt` and
-- `src/raise.rt`, and those of the crate above.
use Rattle.std.specs.Prelude.{◌⊎◌, OnErr, OnOk, Result}
use Rattle.sqlite.specs.State.{State, HasCleanDisk, IsRolledBack, IsUnchanged, Survives}
use Rattle.pw_schema.specs.Raised.{HasSame, lasting_trees}
use Rattle.pw_schema.specs.Tables.{BeginsAsOurs, IsOurs}

-- ---- what they ask, as far as the disk has returned what was written
-- the tables are ours
abbrev pub HasOurTables : State → Type 0
HasOurTables s = HasCleanDisk s → IsOurs s.now.schema

-- the first tables are those of version 1, whatever stands behind them
abbrev pub BeginsWithOurTables : State → Type 0
BeginsWithOurTables s = HasCleanDisk s → BeginsAsOurs s.now.schema

-- ---- what they leave
-- with Ok, the rows of records, points, starts and totals of top-ups are as they were
abbrev pub KeepsLasting : {T E : Type 0} → Result T E → State → State → Type 0
KeepsLasting answer old new = HasCleanDisk new → OnOk answer (HasSame lasting_trees old.now.trees new.now.trees)

-- it changes nothing, and with a fault it may have undone the transaction
pub record Asks {T E : Type 0} (answer : Result T E) (old new : State) : Type 0 where
  pub same : HasCleanDisk new → OnOk answer (IsUnchanged old new)
  pub failed : HasCleanDisk new → OnErr answer (IsUnchanged old new ⊎ IsRolledBack old new)
  pub crash : Survives old new (λ _. ⊥)
