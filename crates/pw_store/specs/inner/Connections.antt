-- What private functions ask of a connection over a store, and what they tell of it, as far as the disk has returned what was
-- written.
-- (Definitions of this project.)
use Rattle.std.specs.Prelude.{◌≡◌, ℕ, IfErr, IfOk, IsTrue, OnOk, Result, length}
use Rattle.sqlite.specs.State.{State, HasCleanDisk}
use Rattle.pw_tariff.specs.Office.{OfficeRules}
use Rattle.pw_parts.specs.declared.parts.Parts.{Parts}
use Rattle.pw_schema.specs.declared.kind.StoreVersion.{StoreVersion}
use Rattle.pw_store.specs.declared.fault.OpenFault.{OpenFault}
use Rattle.pw_store.specs.Content.{records_of}
use Rattle.pw_store.specs.Kept.{IsStore}
use Rattle.pw_store.specs.Opening.{HoldsTables}
use Rattle.pw_store.specs.inner.Opened.{AreJudged, IsSound, RowsRefuse}

-- ---- what they ask
-- what stands there is a store
abbrev pub HoldsStore : State → Type 0
HoldsStore s = HasCleanDisk s → IsStore s.now

-- a transaction has begun
abbrev pub HasBegun : State → Type 0
HasBegun s = HasCleanDisk s → IsTrue s.in_transaction

-- the tables are those of this version alone, and no text of theirs speaks of a conflict
abbrev pub HasTablesOf : StoreVersion → State → Type 0
HasTablesOf v s = HasCleanDisk s → HoldsTables v s.now

-- its records are of the office, each once, and not too many, and these are the parts that they have
abbrev pub HasJudged : OfficeRules → State → Parts → Type 0
HasJudged office s parts = HasCleanDisk s → AreJudged office s.now.trees parts

-- ---- what they tell
-- with Ok, how many records there are
abbrev pub CountsRecords : {E : Type 0} → Result ℕ E → State → Type 0
CountsRecords answer new = HasCleanDisk new → IfOk answer (λ held. length (records_of new.now.trees) ≡ held)

-- with Ok, the rows of our tables are what they have to be
abbrev pub LeavesSound : {T E : Type 0} → OfficeRules → Result T E → State → Type 0
LeavesSound office answer new = HasCleanDisk new → OnOk answer (IsSound office new.now)

-- with a fault, why the rows of the tables of a version that stood there are refused
abbrev pub TellsRefusedRows : {T : Type 0} → StoreVersion → OfficeRules → Result T OpenFault → State → State → Type 0
TellsRefusedRows v office answer old new = HasCleanDisk new → IfErr answer (RowsRefuse v office old.now.trees)
