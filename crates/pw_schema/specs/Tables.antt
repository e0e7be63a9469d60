-- The tables: the eight of version 1, behind them the three of version 2, and behind these the one of version 3.
-- (A format of this project. Trees are numbered by the place of their object in the file's list of objects, from 0; an
-- index that SQLite makes for a key stands directly behind its table.)
use Rattle.std.specs.Prelude.{◌≡◌, ℕ, ◌+◌, pos, true, false, [], ◌∷◌, ◌++◌, Some, None, codes, List, take}
use Rattle.sqlite.specs.Collation.TheVariants.{Binary}
use Rattle.sqlite.specs.declared.types.Value.TheVariants.{Null, Int}
use Rattle.sqlite.specs.Table.{Table}
use Rattle.sqlite.specs.Schema.{Schema}
use Rattle.sqlite.specs.Kind.{Kind}
use Rattle.sqlite.specs.Kind.TheVariants.{Integer, Text, Blob}
use Rattle.sqlite.specs.Term.{Term, lit, col, op2}
use Rattle.sqlite_schema.specs.declared.schema.Column.{Column}
use Rattle.sqlite_schema.specs.declared.schema.Index.{Index}
use Rattle.sqlite_sql.specs.declared.ops.BinaryOp.TheVariants.{Compare}
use Rattle.sqlite_sql.specs.declared.ops.CompareOp.TheVariants.{Eq}
use Rattle.sqlite_value.specs.Keys.{plain}
use Rattle.pw_schema.specs.declared.kind.StoreVersion.{StoreVersion}
use Rattle.pw_schema.specs.declared.kind.StoreVersion.TheVariants.{First, Second, Third}

-- ---- the parts of a table
-- a column that takes values of its type alone, and no NULL
abbrev pub column_of : List ℕ → Kind → Column
column_of name kind = record { name = name; kind = kind; is_strict = true; not_null = true; default = Null; collation = Binary }

-- the column that is the rowid
abbrev pub rowid_column : List ℕ → Column
rowid_column name = record { name = name; kind = Integer; is_strict = true; not_null = false; default = Null; collation = Binary }

-- a table whose key has an index of its own
abbrev pub keyed : List ℕ → ℕ → List Column → List ℕ → Table
keyed name tree columns places = record {
  name = name;
  tree = tree;
  columns = columns;
  key = None;
  primary = places;
  uniques = places ∷ [];
  orders = plain ∷ [];
  checks = [];
  references = [];
  computed = [];
  stamps = record { places = []; terms = []; formats = [] };
  is_counted = false;
}

-- a table whose first column is the rowid
abbrev pub numbered : List ℕ → ℕ → List Column → List Term → Table
numbered name tree columns checks = record {
  name = name;
  tree = tree;
  columns = columns;
  key = Some 0;
  primary = 0 ∷ [];
  uniques = [];
  orders = [];
  checks = checks;
  references = [];
  computed = [];
  stamps = record { places = []; terms = []; formats = [] };
  is_counted = false;
}

abbrev pub of_integers : List (List ℕ) → List Column
of_integers [] = []
of_integers (name ∷ names) = column_of name Integer ∷ of_integers names

-- ---- the tables
abbrev pub office_at : ℕ → List Term → Table
office_at tree checks = numbered (codes "office") tree (rowid_column (codes "id") ∷ column_of (codes "version") Integer ∷ column_of (codes "body") Blob ∷ []) checks

abbrev pub reading_at : ℕ → Table
reading_at tree = keyed (codes "record_reading") tree (of_integers (codes "meter" ∷ codes "register" ∷ codes "instant" ∷ codes "wh" ∷ [])) (1 ∷ 2 ∷ 3 ∷ 4 ∷ [])

abbrev pub assignment_at : ℕ → Table
assignment_at tree = keyed (codes "record_assignment") tree (of_integers (codes "meter" ∷ codes "start" ∷ codes "owner" ∷ [])) (1 ∷ 2 ∷ 3 ∷ [])

abbrev pub topup_at : ℕ → Table
topup_at tree = keyed (codes "record_topup") tree (column_of (codes "reference") Text ∷ of_integers (codes "account" ∷ codes "cents" ∷ codes "instant" ∷ [])) (1 ∷ 2 ∷ 3 ∷ 4 ∷ [])

abbrev pub point_at : ℕ → Table
point_at tree = keyed (codes "point") tree (of_integers (codes "meter" ∷ codes "register" ∷ codes "instant" ∷ codes "wh" ∷ [])) (1 ∷ 2 ∷ 3 ∷ [])

abbrev pub start_at : ℕ → Table
start_at tree = keyed (codes "start") tree (of_integers (codes "meter" ∷ codes "start" ∷ codes "owner" ∷ [])) (1 ∷ 2 ∷ [])

abbrev pub total_at : ℕ → Table
total_at tree = keyed (codes "total") tree (of_integers (codes "owner" ∷ codes "band" ∷ codes "direction" ∷ codes "wh" ∷ [])) (1 ∷ 2 ∷ 3 ∷ [])

abbrev pub total_topup_at : ℕ → Table
total_topup_at tree = numbered (codes "total_topup") tree (rowid_column (codes "account") ∷ column_of (codes "cents") Integer ∷ []) []

-- of the records that withdrawals name: as those of the records
abbrev pub withdrawn_reading_at : ℕ → Table
withdrawn_reading_at tree = keyed (codes "withdrawn_reading") tree (of_integers (codes "meter" ∷ codes "register" ∷ codes "instant" ∷ codes "wh" ∷ [])) (1 ∷ 2 ∷ 3 ∷ 4 ∷ [])

abbrev pub withdrawn_assignment_at : ℕ → Table
withdrawn_assignment_at tree = keyed (codes "withdrawn_assignment") tree (of_integers (codes "meter" ∷ codes "start" ∷ codes "owner" ∷ [])) (1 ∷ 2 ∷ 3 ∷ [])

abbrev pub withdrawn_topup_at : ℕ → Table
withdrawn_topup_at tree = keyed (codes "withdrawn_topup") tree (column_of (codes "reference") Text ∷ of_integers (codes "account" ∷ codes "cents" ∷ codes "instant" ∷ [])) (1 ∷ 2 ∷ 3 ∷ 4 ∷ [])

-- of totals of energy by period, which stand in place of those of `total`
abbrev pub period_total_at : ℕ → Table
period_total_at tree = keyed (codes "period_total") tree (of_integers (codes "owner" ∷ codes "period" ∷ codes "band" ∷ codes "direction" ∷ codes "wh" ∷ [])) (1 ∷ 2 ∷ 3 ∷ 4 ∷ [])

-- id = 1
abbrev pub only_one : List Term
only_one = op2 (Compare Eq Binary) (col 1 0) (lit (Int (pos 1))) ∷ []

abbrev pub index_of : List ℕ → ℕ → List ℕ → Index
index_of name tree places = record { name = name; tree = tree + 1; table = tree; columns = places; order = plain; is_unique = true }

-- ---- all of them
-- those of version 1, by what the check of `office` says
abbrev pub first_with : List Term → Schema
first_with checks = record {
  tables = office_at 0 checks ∷ reading_at 1 ∷ assignment_at 3 ∷ topup_at 5 ∷ point_at 7 ∷ start_at 9 ∷ total_at 11 ∷ total_topup_at 13 ∷ [];
  indexes =
      index_of (codes "sqlite_autoindex_record_reading_1") 1 (1 ∷ 2 ∷ 3 ∷ 4 ∷ [])
      ∷ index_of (codes "sqlite_autoindex_record_assignment_1") 3 (1 ∷ 2 ∷ 3 ∷ [])
      ∷ index_of (codes "sqlite_autoindex_record_topup_1") 5 (1 ∷ 2 ∷ 3 ∷ 4 ∷ [])
      ∷ index_of (codes "sqlite_autoindex_point_1") 7 (1 ∷ 2 ∷ 3 ∷ [])
      ∷ index_of (codes "sqlite_autoindex_start_1") 9 (1 ∷ 2 ∷ [])
      ∷ index_of (codes "sqlite_autoindex_total_1") 11 (1 ∷ 2 ∷ 3 ∷ [])
      ∷ [];
  views = [];
}

-- those of version 2: three more
abbrev pub second_with : List Term → Schema
second_with checks = record {
  tables =
      (first_with checks).tables
      ++ withdrawn_reading_at 14 ∷ withdrawn_assignment_at 16 ∷ withdrawn_topup_at 18 ∷ [];
  indexes =
      (first_with checks).indexes
      ++ index_of (codes "sqlite_autoindex_withdrawn_reading_1") 14 (1 ∷ 2 ∷ 3 ∷ 4 ∷ [])
      ∷ index_of (codes "sqlite_autoindex_withdrawn_assignment_1") 16 (1 ∷ 2 ∷ 3 ∷ [])
      ∷ index_of (codes "sqlite_autoindex_withdrawn_topup_1") 18 (1 ∷ 2 ∷ 3 ∷ 4 ∷ [])
      ∷ [];
  views = [];
}

-- those of version 3, which is that of a store once it is opened: one more
abbrev pub ours_with : List Term → Schema
ours_with checks = record {
  tables = (second_with checks).tables ++ period_total_at 20 ∷ [];
  indexes =
      (second_with checks).indexes
      ++ index_of (codes "sqlite_autoindex_period_total_1") 20 (1 ∷ 2 ∷ 3 ∷ 4 ∷ []) ∷ [];
  views = [];
}

-- a file without objects
abbrev pub no_schema : Schema
no_schema = record { tables = []; indexes = []; views = [] }

-- ---- by version
-- the number that `office` keeps of it
abbrev pub version_number : StoreVersion → ℕ
version_number First = 1
version_number Second = 2
version_number Third = 3

-- before version 3
abbrev pub IsEarlier : StoreVersion → Type 0
IsEarlier First = Unit {0}
IsEarlier Second = Unit {0}
IsEarlier Third = ⊥

abbrev pub schema_of : StoreVersion → Schema
schema_of First = first_with only_one
schema_of Second = second_with only_one
schema_of Third = ours_with only_one

-- the schema is that of a version: an equation, so it has one proof at most
abbrev pub IsOf : StoreVersion → Schema → Type 0
IsOf v s = s ≡ schema_of v

abbrev pub IsKnown : Schema → Type 0
IsKnown s = (v : StoreVersion) × IsOf v s

-- the schema is ours
abbrev pub IsOurs : Schema → Type 0
IsOurs s = s ≡ ours_with only_one

-- the first eight tables and the first six indexes are those of version 1, whatever stands behind them
pub record BeginsAsOurs (s : Schema) : Type 0 where
  pub tables : take 8 s.tables ≡ (first_with only_one).tables
  pub indexes : take 6 s.indexes ≡ (first_with only_one).indexes
