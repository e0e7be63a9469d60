-- What private functions of an opening find. It serves `src/opening.rt`, `src/judging.rt`, `src/adopting.rt`, `src/connecting.rt`,
-- `src/filling.rt` and `src/sums.rt`.
-- (Definitions of this project.)
use Rattle.std.specs.Prelude.{◌≡◌, ◌⊎◌, ◌≤◌, ℕ, false, List, [], length, IsTrue}
use Rattle.std.specs.List.Sorted.{IsPermutation}
use Rattle.sqlite.specs.Order.{Row, column}
use Rattle.sqlite.specs.Tree.{Trees}
use Rattle.sqlite.specs.Effect.{Database}
use Rattle.sqlite.specs.State.{State}
use Rattle.pw_tariff.specs.Office.{OfficeRules}
use Rattle.pw_model.specs.declared.records.Entry.{Entry}
use Rattle.pw_model.specs.Office.{AllOfOffice, most_records}
use Rattle.pw_parts.specs.declared.parts.Parts.{Parts}
use Rattle.pw_parts.specs.Parts.{IsPartsOf}
use Rattle.pw_schema.specs.declared.kind.TotalKind.{TotalKind}
use Rattle.pw_schema.specs.declared.kind.TotalKind.TheVariants.{Energies, Payments}
use Rattle.pw_schema.specs.Rows.{number}
use Rattle.pw_schema.specs.Judging.{HasOtherText, HasOtherVersion, HasVersion, KeepsOffice}
use Rattle.pw_schema.specs.Conflicts.{AreWithoutConflict}
use Rattle.pw_schema.specs.Fresh.{IsWithin}
use Rattle.pw_schema.specs.Tables.{schema_of}
use Rattle.pw_schema.specs.declared.kind.StoreVersion.{StoreVersion}
use Rattle.pw_schema.specs.declared.kind.StoreVersion.TheVariants.{Third}
use Rattle.pw_store.specs.declared.fault.OpenFault.{OpenFault}
use Rattle.pw_store.specs.declared.fault.OpenFault.TheVariants.{Store, Memory, OfficeDiffers, Version, Unclean}
use Rattle.pw_model.specs.Shelf.{IsTrueContent}
use Rattle.pw_store.specs.Content.{content_of, records_of, energy_tree, total_tree}
use Rattle.pw_store.specs.Kept.{IsStore}
use Rattle.pw_store.specs.Left.{IsAdopted, IsUpgraded}
use Rattle.pw_store.specs.Opening.{KeepsText, NamesOffice, HasNoRow, HoldsAllRecords, HoldsTables, HoldsTotals, HoldsTooMany, IsFound, IsSpoilt, Opens}

-- a connection that was open and is, and inside of no transaction
pub record IsSettled (old new : State) : Type 0 where
  pub was_open : IsTrue old.is_open
  pub is_open : IsTrue new.is_open
  pub outside : new.in_transaction ≡ false
  pub now : new.now ≡ old.committed
  pub committed : new.committed ≡ old.committed

abbrev pub amount_of_total : TotalKind → Row → ℕ
amount_of_total Energies r = number (column r 5)
amount_of_total Payments r = number (column r 2)

-- totals of energy by period, and none by band alone
pub record HoldsEnergies (office : OfficeRules) (db : Trees) : Type 0 where
  pub energies : HoldsTotals office Energies (db energy_tree)
  pub old : db total_tree ≡ []

-- what the rows of our tables have to be
pub record IsSound (office : OfficeRules) (db : Database) : Type 0 where
  pub store : IsStore db
  pub named : NamesOffice Third office db.trees
  pub of_office : AllOfOffice office (records_of db.trees)
  pub few : length (records_of db.trees) ≤ most_records
  pub truth : IsTrueContent office (content_of db.trees)

-- what a database has to be, to be opened
pub record MayOpen (office : OfficeRules) (body : List ℕ) (db : Database) : Type 0 where
  pub store : IsStore db
  pub plain : AreWithoutConflict db.trees
  pub kept : KeepsText (KeepsOffice body) db.trees
  pub named : NamesOffice Third office db.trees
  pub of_office : AllOfOffice office (records_of db.trees)
  pub few : length (records_of db.trees) ≤ most_records
  pub truth : IsTrueContent office (content_of db.trees)

-- what an opened connection is: that of before, or where nothing was there, a store without records, or one of an earlier
-- version brought to version 3; and what was there opens
pub record IsOpened (office : OfficeRules) (body : List ℕ) (before : Database) (s : State) : Type 0 where
  pub is_open : IsTrue s.is_open
  pub outside : s.in_transaction ≡ false
  pub settled : s.now ≡ s.committed
  pub may_open : MayOpen office body s.now
  pub found : IsFound office before (content_of s.now.trees)
  pub opens : Opens office body before

-- a store of an earlier version that stands within a transaction as one of version 3, which may be committed
pub record IsReady (v : StoreVersion) (office : OfficeRules) (body : List ℕ) (before : Database) (s : State) : Type 0 where
  pub within : IsWithin (schema_of Third) s
  pub upgraded : IsUpgraded v office body before s.now
  pub sound : IsSound office s.now

-- an open connection over a store, on which nothing waits
pub record IsStanding (s : State) : Type 0 where
  pub is_open : IsTrue s.is_open
  pub outside : s.in_transaction ≡ false
  pub settled : s.now ≡ s.committed
  pub store : IsStore s.now

-- a store that stands within a transaction with another office file, which may be committed
pub record IsReplaced (office : OfficeRules) (body : List ℕ) (before : Database) (s : State) : Type 0 where
  pub within : IsWithin (schema_of Third) s
  pub adopted : IsAdopted office body before s.now
  pub store : IsStore s.now

-- and once it is committed
pub record HasAdopted (office : OfficeRules) (body : List ℕ) (before : Database) (s : State) : Type 0 where
  pub standing : IsStanding s
  pub adopted : IsAdopted office body before s.now

-- what is known of the version in the row of `office` where it refuses an opening
abbrev pub VersionRefuses : Trees → OpenFault → Type 0
VersionRefuses db Store = Unit {0}
VersionRefuses db Memory = Unit {0}
VersionRefuses db OfficeDiffers = ⊥
VersionRefuses db Version = KeepsText HasOtherVersion db
VersionRefuses db Unclean = KeepsText HasNoRow db

-- of that row, and of what stands beside our tables
abbrev pub RowRefuses : List ℕ → Database → OpenFault → Type 0
RowRefuses body db Store = Unit {0}
RowRefuses body db Memory = Unit {0}
RowRefuses body db OfficeDiffers = (v : StoreVersion) × (HoldsTables v db × KeepsText (HasOtherText v body) db.trees)
RowRefuses body db Version = KeepsText HasOtherVersion db.trees
RowRefuses body db Unclean = KeepsText HasNoRow db.trees ⊎ ((v : StoreVersion) × (KeepsText (HasVersion v) db.trees × (HoldsTables v db → ⊥)))

-- the records of our tables are of the office, each once, and not too many, and these are the parts that they have
pub record AreJudged (office : OfficeRules) (db : Trees) (parts : Parts) : Type 0 where
  pub all : HoldsAllRecords Third office db
  pub few : length (records_of db) ≤ most_records
  pub parts_of : (records : List Entry) × IsPermutation (records_of db) records × IsPartsOf office records parts

-- of the rows of records
abbrev pub RecordsRefuse : OfficeRules → Trees → OpenFault → Type 0
RecordsRefuse office db Store = Unit {0}
RecordsRefuse office db Memory = Unit {0}
RecordsRefuse office db OfficeDiffers = ⊥
RecordsRefuse office db Version = ⊥
RecordsRefuse office db Unclean = (HoldsAllRecords Third office db → ⊥) ⊎ HoldsTooMany Third db

-- of the rows of the tables of a version
abbrev pub RowsRefuse : StoreVersion → OfficeRules → Trees → OpenFault → Type 0
RowsRefuse v office db Store = Unit {0}
RowsRefuse v office db Memory = Unit {0}
RowsRefuse v office db OfficeDiffers = ⊥
RowsRefuse v office db Version = ⊥
RowsRefuse v office db Unclean = IsSpoilt v office db

-- of rows, where it asks of them that they be such
abbrev pub RefusesUnless : Type 0 → OpenFault → Type 0
RefusesUnless AreSuch Store = Unit {0}
RefusesUnless AreSuch Memory = Unit {0}
RefusesUnless AreSuch OfficeDiffers = ⊥
RefusesUnless AreSuch Version = ⊥
RefusesUnless AreSuch Unclean = AreSuch → ⊥
