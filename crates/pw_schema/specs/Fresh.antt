-- What a new store holds, and a text that is set.
-- (A format of this project.)
use Rattle.std.specs.Prelude.{◌≡◌, ℕ, pos, false, true, [], ◌∷◌, List, IsTrue}
use Rattle.sqlite.specs.declared.types.Value.TheVariants.{Null, Int, Blob}
use Rattle.sqlite.specs.Order.{Row}
use Rattle.sqlite.specs.Effect.{Database, IsDatabase}
use Rattle.sqlite.specs.Schema.{Schema}
use Rattle.sqlite.specs.Tree.{Trees}
use Rattle.sqlite.specs.State.{State}
use Rattle.pw_schema.specs.Conflicts.{AreWithoutConflict}
use Rattle.pw_schema.specs.Tables.{ours_with, only_one}

-- the one row of `office`: its id, which is the rowid and kept as NULL, version 3, and the office file's bytes
abbrev pub office_row : List ℕ → Row
office_row body = Int (pos 1) ∷ Null ∷ Int (pos 3) ∷ Blob body ∷ []

-- where `office` had one row of version 3, of any text, it has that of this text
abbrev pub SetsText : List ℕ → Trees → Trees → Type 0
SetsText body before db = (told : List ℕ) → before 0 ≡ office_row told ∷ [] → db 0 ≡ office_row body ∷ []

-- all tables, with the office alone
pub record IsFresh (body : List ℕ) (db : Database) : Type 0 where
  pub schema_is : db.schema ≡ ours_with only_one
  pub office : db.trees 0 ≡ office_row body ∷ []
  pub reading : db.trees 1 ≡ []
  pub assignment : db.trees 3 ≡ []
  pub topup : db.trees 5 ≡ []
  pub point : db.trees 7 ≡ []
  pub start : db.trees 9 ≡ []
  pub total : db.trees 11 ≡ []
  pub total_topup : db.trees 13 ≡ []
  pub withdrawn_reading : db.trees 14 ≡ []
  pub withdrawn_assignment : db.trees 16 ≡ []
  pub withdrawn_topup : db.trees 18 ≡ []
  pub period_total : db.trees 20 ≡ []

-- such a database, whose file lists these tables, in whose texts no conflict is spoken of
pub record IsNew (body : List ℕ) (db : Database) : Type 0 where
  pub fresh : IsFresh body db
  pub listed : IsDatabase db
  pub plain : AreWithoutConflict db.trees

-- the trees of one
abbrev pub AreNew : List ℕ → Trees → Type 0
AreNew body trees = (db : Database) × IsNew body db × (trees ≡ db.trees)

-- a connection that is open, outside of a transaction, with nothing that waits to be committed
pub record IsIdleAt (s : State) : Type 0 where
  pub is_open : IsTrue s.is_open
  pub outside : s.in_transaction ≡ false
  pub settled : s.now ≡ s.committed

-- within a transaction, on an open connection with this schema
pub record IsWithin (schema : Schema) (s : State) : Type 0 where
  pub is_open : IsTrue s.is_open
  pub inside : s.in_transaction ≡ true
  pub schema_is : s.now.schema ≡ schema
