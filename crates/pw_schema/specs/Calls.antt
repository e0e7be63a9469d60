-- What calls ask of a connection, and what they leave of it, by their answer.
-- (Definitions of this project.)
use Rattle.std.specs.Prelude.{◌⊎◌, OnErr, OnOk, Result}
use Rattle.sqlite.specs.State.{State, HasCleanDisk, IsRolledBack, IsUnchanged, KeepsCommit, Survives}
use Rattle.pw_schema.specs.declared.kind.StoreVersion.{StoreVersion}
use Rattle.pw_schema.specs.Fresh.{IsWithin}
use Rattle.pw_schema.specs.Raised.{HasSame, all_but_office}
use Rattle.pw_schema.specs.Tables.{schema_of}

-- ---- what they ask, as far as the disk has returned what was written
-- within a transaction the tables are those of a version
abbrev pub IsWithinVersion : StoreVersion → State → Type 0
IsWithinVersion v s = HasCleanDisk s → IsWithin (schema_of v) s

-- ---- what they leave, as far as the disk has returned what was written
-- what was committed stays so, whatever the answer
abbrev pub CommitStays : State → State → Type 0
CommitStays old new = HasCleanDisk new → KeepsCommit old new

-- with a fault, what was committed stays so
abbrev pub CommitStaysOnErr : {T E : Type 0} → Result T E → State → State → Type 0
CommitStaysOnErr answer old new = HasCleanDisk new → OnErr answer (KeepsCommit old new)

-- with Ok, the tables within a transaction are those of a version
abbrev pub LeavesVersion : {T E : Type 0} → StoreVersion → Result T E → State → Type 0
LeavesVersion v answer new = HasCleanDisk new → OnOk answer (IsWithin (schema_of v) new)

-- with Ok, the rows of each table but `office` are as they were
abbrev pub KeepsAllButOffice : {T E : Type 0} → Result T E → State → State → Type 0
KeepsAllButOffice answer old new = HasCleanDisk new → OnOk answer (HasSame all_but_office old.now.trees new.now.trees)

module _ {T E : Type 0} (answer : Result T E) (old new : State) where
  -- a call that changes nothing: with Ok the connection is as it was; with a fault what was committed stays so; and a
  -- crash leaves only what it left before
  pub record Looks : Type 0 where
    pub same : HasCleanDisk new → OnOk answer (IsUnchanged old new)
    pub kept : HasCleanDisk new → KeepsCommit old new
    pub crash : Survives old new (λ _. ⊥)

  -- a call that writes: with a fault it changed nothing, or undid the transaction, and a crash leaves nothing of it
  pub record Writes : Type 0 where
    pub failed : HasCleanDisk new → OnErr answer (IsUnchanged old new ⊎ IsRolledBack old new)
    pub crash : Survives old new (λ _. ⊥)
