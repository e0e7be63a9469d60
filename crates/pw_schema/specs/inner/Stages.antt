-- The tables as values, and the schema after so many of them. It serves `src/table.rt`, `src/make.rt`,
-- `src/raise.rt`, `src/tables.rt` and `src/indexes.rt`.
use Rattle.std.specs.Prelude.{◌≡◌, ℕ, true, List, [], ◌∷◌, ◌++◌, codes, take, IsTrue, OnOk, Result}
use Rattle.std.specs.List.{AllByRecursion}
use Rattle.sqlite.specs.Table.{Table}
use Rattle.sqlite_schema.specs.declared.schema.Index.{Index}
use Rattle.sqlite.specs.Schema.{Schema}
use Rattle.sqlite.specs.Change.{created}
use Rattle.sqlite.specs.Effect.{Database}
use Rattle.sqlite.specs.State.{State, HasCleanDisk, KeepsCommit, Survives}
use Rattle.sqlite.specs.Tree.{Trees}
use Rattle.sqlite_catalog.specs.Change.{KeepsRows}
use Rattle.pw_schema.specs.declared.table.StoreTable.{StoreTable}
use Rattle.pw_schema.specs.declared.table.StoreTable.TheVariants.{Office, Readings, Assignments, TopUps, Points, Starts, Totals, TotalTopUps, WithdrawnReadings, WithdrawnAssignments, WithdrawnTopUps, PeriodTotals}
use Rattle.pw_schema.specs.declared.kind.StoreVersion.{StoreVersion}
use Rattle.pw_schema.specs.Fresh.{IsWithin}
use Rattle.pw_schema.specs.Raised.{IsRaised}
pub use Rattle.pw_schema.specs.Texts.{all_tables, text_of}
use Rattle.pw_schema.specs.Tables.{no_schema, only_one, office_at, reading_at, assignment_at, topup_at, point_at, start_at, total_at, total_topup_at, withdrawn_reading_at, withdrawn_assignment_at, withdrawn_topup_at, period_total_at, index_of, schema_of}

-- the place of a table in the order in which they are made, and the tree at which it stands in a store, both from 0
abbrev pub places : StoreTable → ℕ × ℕ
places Office = (0, 0)
places Readings = (1, 1)
places Assignments = (2, 3)
places TopUps = (3, 5)
places Points = (4, 7)
places Starts = (5, 9)
places Totals = (6, 11)
places TotalTopUps = (7, 13)
places WithdrawnReadings = (8, 14)
places WithdrawnAssignments = (9, 16)
places WithdrawnTopUps = (10, 18)
places PeriodTotals = (11, 20)

abbrev pub place : StoreTable → ℕ
place t = (places t).0

abbrev pub tree_of : StoreTable → ℕ
tree_of t = (places t).1

-- the table itself, at a tree
abbrev pub table_at : StoreTable → ℕ → Table
table_at Office tree = office_at tree only_one
table_at Readings tree = reading_at tree
table_at Assignments tree = assignment_at tree
table_at TopUps tree = topup_at tree
table_at Points tree = point_at tree
table_at Starts tree = start_at tree
table_at Totals tree = total_at tree
table_at TotalTopUps tree = total_topup_at tree
table_at WithdrawnReadings tree = withdrawn_reading_at tree
table_at WithdrawnAssignments tree = withdrawn_assignment_at tree
table_at WithdrawnTopUps tree = withdrawn_topup_at tree
table_at PeriodTotals tree = period_total_at tree

-- the table as it stands in a store
abbrev pub stored : StoreTable → Table
stored t = table_at t (tree_of t)

-- the index that SQLite makes for the key of a table
abbrev pub index_at : StoreTable → Index
index_at t = index_of (codes "sqlite_autoindex_" ++ (stored t).name ++ codes "_1") (tree_of t) (stored t).primary

-- a schema with more tables, made one behind the other
abbrev pub with_tables : Schema → List StoreTable → Schema
with_tables schema [] = schema
with_tables schema (t ∷ ts) = with_tables (created schema (table_at t 0)) ts

-- the schema after so many tables
abbrev pub stage : ℕ → Schema
stage n = with_tables no_schema (take n all_tables)

-- the schema in which a table is made, and that which it makes of it
abbrev pub before : StoreTable → Schema
before t = stage (place t)

abbrev pub behind : StoreTable → Schema
behind t = created (before t) (table_at t 0)

-- one table more, without rows, and those before it as they were
pub record Grows (t : StoreTable) (old new : Trees) : Type 0 where
  pub others : KeepsRows (before t).tables old new
  pub empty : new (tree_of t) ≡ []

-- the tables are those of the schema, and have no rows
pub record IsBlank (schema : Schema) (db : Database) : Type 0 where
  pub schema_is : db.schema ≡ schema
  pub empty : AllByRecursion (λ t. db.trees t.tree ≡ []) schema.tables

-- within a transaction, tables are being made
pub record IsMaking (schema : Schema) (s : State) : Type 0 where
  pub is_open : IsTrue s.is_open
  pub inside : s.in_transaction ≡ true
  pub blank : IsBlank schema s.now

-- a call within a transaction, behind which the tables are those of a version
pub record BringsTo (v : StoreVersion) {T E : Type 0} (answer : Result T E) (old new : State) : Type 0 where
  pub made : HasCleanDisk new → OnOk answer (IsWithin (schema_of v) new)
  pub kept : HasCleanDisk new → KeepsCommit old new
  pub crash : Survives old new (λ _. ⊥)

-- and the rows that stood in the tables of the version before it stay, beside tables without rows
pub record Raises (from to : StoreVersion) {T E : Type 0} (answer : Result T E) (old new : State) : Type 0 where
  pub tables : BringsTo to answer old new
  pub raised : HasCleanDisk new → OnOk answer (IsRaised from old.now.trees new.now.trees)
