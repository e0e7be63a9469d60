-- What an opening finds, and why it is refused.
-- (Definitions of this project.)
use Rattle.std.specs.Prelude.{◌≡◌, ◌⊎◌, ℕ, pos, true, ◌&&◌, List, [], ◌∷◌, map, ◌<◌, ◌≤◌, length}
use Rattle.std.specs.List.{AllByRecursion, filter}
use Rattle.std.specs.List.Sorted.{IsPermutation}
use Rattle.sqlite.specs.declared.types.Value.TheVariants.{Int}
use Rattle.sqlite.specs.Order.{Row, column}
use Rattle.sqlite.specs.Ops.{binary, is_true}
use Rattle.sqlite.specs.Tree.{Trees}
use Rattle.sqlite.specs.Effect.{Database}
use Rattle.sqlite_value.specs.declared.keys.Collation.TheVariants.{Binary}
use Rattle.sqlite_sql.specs.declared.ops.BinaryOp.TheVariants.{Compare}
use Rattle.sqlite_sql.specs.declared.ops.CompareOp.TheVariants.{Eq}
use Rattle.pw_tariff.specs.Office.{OfficeRules}
use Rattle.pw_model.specs.Office.{AllOfOffice, most_records}
use Rattle.pw_model.specs.Counting.{EachOnce, Member}
use Rattle.pw_schema.specs.declared.kind.RecordKind.{RecordKind}
use Rattle.pw_schema.specs.declared.kind.RecordKind.TheVariants.{Readings, Assignments}
use Rattle.pw_model.specs.declared.records.TotalKey.{TotalKey}
use Rattle.pw_schema.specs.declared.kind.TotalKind.{TotalKind}
use Rattle.pw_schema.specs.declared.kind.TotalKind.TheVariants.{Energies, Payments}
use Rattle.pw_schema.specs.Judging.{HasOtherText, HasOtherVersion, HasVersion, IsTotalOf, KeepsVersion}
use Rattle.pw_schema.specs.Conflicts.{AreWithoutConflict}
use Rattle.pw_schema.specs.Tables.{BeginsAsOurs, IsOf, no_schema}
use Rattle.pw_store.specs.declared.fault.OpenFault.{OpenFault}
use Rattle.pw_store.specs.declared.fault.OpenFault.TheVariants.{Store, Memory, OfficeDiffers, Version, Unclean}
use Rattle.pw_model.specs.Shelf.{IsTrueContent, ShelfContent, no_content}
use Rattle.pw_schema.specs.declared.kind.StoreVersion.{StoreVersion}
use Rattle.pw_schema.specs.declared.kind.StoreVersion.TheVariants.{First, Second, Third}
use Rattle.pw_store.specs.Content.{content_of_version, energy_in, payment_in, IsReadingRow, IsAssignmentRow, IsRowOf, entries_of, entry_in, kinds_of, point_tree, records_of_version, start_tree, total_tree, energy_tree, payment_tree, tree_of}
use Rattle.pw_store.specs.Kept.{key_in_point, key_in_start}
use Rattle.pw_store.specs.Keyed.{IsEnergyRow, IsPaymentRow}

-- ---- the office's row: version and text
abbrev pub shown_office : Row → Row
shown_office r = column r 2 ∷ column r 3 ∷ []

abbrev pub offices : Trees → List Row
offices db = map shown_office (filter (λ r. is_true (binary (Compare Eq Binary) (column r 0) (Int (pos 1))) && true) (db 0))

-- so it is of the rows of `office`, in some order
abbrev pub KeepsText : (List Row → Type 0) → Trees → Type 0
KeepsText Keeps db = (rows : List Row) × (IsPermutation (offices db) rows × Keeps rows)

-- ---- the records of a kind: each row one of the office, each once
pub record HoldsRecords (office : OfficeRules) (k : RecordKind) (db : Trees) : Type 0 where
  pub rows : AllByRecursion (IsRowOf k) (db (tree_of k))
  pub once : EachOnce (entries_of k db)
  pub of_office : AllOfOffice office (entries_of k db)

-- ---- points and starts, each kept as a record: each row one of the office, no key twice
pub record HoldsKept (office : OfficeRules) (k : RecordKind) (table : List Row) : Type 0 where
  pub rows : AllByRecursion (IsRowOf k) table
  pub once : EachOnce (map (λ r. (entry_in k r).key) table)
  pub of_office : AllOfOffice office (map (entry_in k) table)

-- ---- totals of a kind
abbrev pub IsTotalRow : TotalKind → Row → Type 0
IsTotalRow Energies r = IsEnergyRow r
IsTotalRow Payments r = IsPaymentRow r

abbrev pub key_of_total : TotalKind → Row → TotalKey
key_of_total Energies r = energy_in r
key_of_total Payments r = payment_in r

-- each row one of the office, no key twice
pub record HoldsTotals (office : OfficeRules) (k : TotalKind) (table : List Row) : Type 0 where
  pub rows : AllByRecursion (λ r. IsTotalRow k r × IsTotalOf office (key_of_total k r)) table
  pub once : EachOnce (map (key_of_total k) table)

-- points, starts and totals of top-ups
pub record HoldsLasting (office : OfficeRules) (db : Trees) : Type 0 where
  pub points : HoldsKept office Readings (db point_tree)
  pub starts : HoldsKept office Assignments (db start_tree)
  pub payments : HoldsTotals office Payments (db payment_tree)

-- points, starts and totals
pub record HoldsSums (office : OfficeRules) (db : Trees) : Type 0 where
  pub points : HoldsKept office Readings (db point_tree)
  pub starts : HoldsKept office Assignments (db start_tree)
  pub energies : HoldsTotals office Energies (db energy_tree)
  pub payments : HoldsTotals office Payments (db payment_tree)
  pub old : db total_tree ≡ []

-- by version: before the third, totals of energy aren't judged
abbrev pub HoldsSumsOf : StoreVersion → OfficeRules → Trees → Type 0
HoldsSumsOf First office db = HoldsLasting office db
HoldsSumsOf Second office db = HoldsLasting office db
HoldsSumsOf Third office db = HoldsSums office db

-- ---- why it is refused
abbrev pub HasNoRow : List Row → Type 0
HasNoRow rows = (row : Row) → rows ≡ row ∷ [] → ⊥

-- there are more records than a store may hold
abbrev pub HoldsTooMany : StoreVersion → Trees → Type 0
HoldsTooMany v db = most_records < length (records_of_version v db)

-- each table of records of this version holds records of the office, each once
abbrev pub HoldsAllRecords : StoreVersion → OfficeRules → Trees → Type 0
HoldsAllRecords v office db = (k : RecordKind) → Member k (kinds_of v) → HoldsRecords office k db

-- the rows aren't those of a store of the office
abbrev pub IsSpoilt : StoreVersion → OfficeRules → Trees → Type 0
IsSpoilt v office db =
    (HoldsAllRecords v office db → ⊥)
    ⊎ (HoldsTooMany v db ⊎ ((HoldsSumsOf v office db → ⊥) ⊎ (IsTrueContent office (content_of_version office v db) → ⊥)))

-- the tables are those of this version alone, and no text of theirs speaks of a conflict
pub record HoldsTables (v : StoreVersion) (db : Database) : Type 0 where
  pub schema_is : IsOf v db.schema
  pub plain : AreWithoutConflict db.trees

-- of a database that begins with the tables of version 1: another version than those that are known is told before what
-- stands behind these, by the version, and a clause of theirs; these before another text, and all of them before other
-- rows
abbrev pub BegunRefuses : OfficeRules → List ℕ → Database → OpenFault → Type 0
BegunRefuses office body db Store = Unit {0}
BegunRefuses office body db Memory = Unit {0}
BegunRefuses office body db Version = KeepsText HasOtherVersion db.trees
BegunRefuses office body db OfficeDiffers = (v : StoreVersion) × (HoldsTables v db × KeepsText (HasOtherText v body) db.trees)
BegunRefuses office body db Unclean =
    KeepsText HasNoRow db.trees
    ⊎ (((v : StoreVersion) × (KeepsText (HasVersion v) db.trees × (HoldsTables v db → ⊥)))
    ⊎ ((v : StoreVersion) × (HoldsTables v db × (KeepsText (KeepsVersion v body) db.trees × IsSpoilt v office db.trees))))

-- of any database: there is something, and it doesn't begin with the tables of version 1; or it does, and what it holds
-- refuses
abbrev pub Refuses : OfficeRules → List ℕ → Database → OpenFault → Type 0
Refuses office body db Store = Unit {0}
Refuses office body db Memory = Unit {0}
Refuses office body db OfficeDiffers = BeginsAsOurs db.schema × BegunRefuses office body db OfficeDiffers
Refuses office body db Version = BeginsAsOurs db.schema × BegunRefuses office body db Version
Refuses office body db Unclean =
    (((db.schema ≡ no_schema) → ⊥) × (BeginsAsOurs db.schema → ⊥)) ⊎ (BeginsAsOurs db.schema × BegunRefuses office body db Unclean)

-- ---- what opens
-- rows of the kinds asked for, with no key twice
pub record AreRows {K : Type 0} (IsRow : Row → Type 0) (key_in : Row → K) (rows : List Row) : Type 0 where
  pub each : AllByRecursion IsRow rows
  pub once : EachOnce (map key_in rows)

-- totals of energy by period, and none by band alone
pub record HasEnergies (db : Trees) : Type 0 where
  pub rows : AreRows IsEnergyRow energy_in (db energy_tree)
  pub none : db total_tree ≡ []

-- by version: before the third, anything
abbrev pub HasEnergiesOf : StoreVersion → Trees → Type 0
HasEnergiesOf First db = Unit {0}
HasEnergiesOf Second db = Unit {0}
HasEnergiesOf Third db = HasEnergies db

-- each row of the tables of this version is of the kinds of its table, and no record stands twice, nor the key of a point,
-- a start or a total
pub record HasRows (v : StoreVersion) (db : Trees) : Type 0 where
  pub rows : (k : RecordKind) → Member k (kinds_of v) → AllByRecursion (IsRowOf k) (db (tree_of k))
  pub once : EachOnce (records_of_version v db)
  pub points : AreRows IsReadingRow key_in_point (db point_tree)
  pub starts : AreRows IsAssignmentRow key_in_start (db start_tree)
  pub energies : HasEnergiesOf v db
  pub payments : AreRows IsPaymentRow payment_in (db payment_tree)

-- each total of energy by period names what the office has
abbrev pub NamesEnergies : StoreVersion → OfficeRules → Trees → Type 0
NamesEnergies First office db = Unit {0}
NamesEnergies Second office db = Unit {0}
NamesEnergies Third office db = AllByRecursion (λ r. IsTotalOf office (energy_in r)) (db energy_tree)

-- each total that is kept, a total of 0 too, names what the office has
pub record NamesOffice (v : StoreVersion) (office : OfficeRules) (db : Trees) : Type 0 where
  pub energies : NamesEnergies v office db
  pub payments : AllByRecursion (λ r. IsTotalOf office (payment_in r)) (db payment_tree)

-- the tables of this version with this text, whose content is true and has entries of the office, and not too many
pub record IsOpenable (v : StoreVersion) (office : OfficeRules) (body : List ℕ) (db : Database) : Type 0 where
  pub ours : HoldsTables v db
  pub text : KeepsText (KeepsVersion v body) db.trees
  pub rows : HasRows v db.trees
  pub named : NamesOffice v office db.trees
  pub of_office : AllOfOffice office (records_of_version v db.trees)
  pub few : length (records_of_version v db.trees) ≤ most_records
  pub truth : IsTrueContent office (content_of_version office v db.trees)

-- nothing, or such a store, of any version
abbrev pub Opens : OfficeRules → List ℕ → Database → Type 0
Opens office body db = (db.schema ≡ no_schema) ⊎ ((v : StoreVersion) × IsOpenable v office body db)

-- what opens is refused only for the engine's sake, or for memory
abbrev pub OpenableOpens : Type 0
OpenableOpens = (office : OfficeRules) (body : List ℕ) (db : Database) (fault : OpenFault) → Opens office body db → Refuses office body db fault → (fault ≡ Store) ⊎ (fault ≡ Memory)

-- ---- what is opened
-- what a file holds: nothing where it shows nothing, else what the tables of its version hold
abbrev pub IsFound : OfficeRules → Database → ShelfContent → Type 0
IsFound office db c = ((v : StoreVersion) × (IsOf v db.schema × (c ≡ content_of_version office v db.trees))) ⊎ ((db.schema ≡ no_schema) × (c ≡ no_content))
