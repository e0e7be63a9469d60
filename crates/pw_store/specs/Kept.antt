-- What is known of a store over SQL: of its connection, and of the connection as it was when the last upload ended.
-- (Definitions of this project.)
use Rattle.std.specs.Prelude.{◌≡◌, ℕ, Bool, true, false, cond, [], length, Option, Some, None, List, IsTrue, refl}
use Rattle.std.proofs.Math.Logic.{∥∥₁_elim}
use Rattle.std.specs.List.{AllByRecursion}
use mathlib.Core.HLevel.{⊥_prop}
use Rattle.sqlite.specs.Order.{Row}
use Rattle.sqlite.specs.Tree.{Trees}
use Rattle.sqlite.specs.Effect.{Database}
use Rattle.sqlite.specs.State.{State as Sql, HasCleanDisk}
use Rattle.pw_model.specs.Counting.{EachOnce}
use Rattle.pw_model.specs.declared.records.Key.{Key}
use Rattle.pw_model.specs.Shelf.{ShelfContent}
use Rattle.pw_shelf.specs.State.{State}
use Rattle.pw_schema.specs.Tables.{IsOurs}
use Rattle.pw_schema.specs.declared.kind.RecordKind.{RecordKind}
use Rattle.pw_store.specs.Content.{content_of, IsReadingRow, IsAssignmentRow, IsRowOf, tree_of, reading_in, assignment_in, energy_in, payment_in, point_tree, start_tree, total_tree, energy_tree, payment_tree, records_of}
use Rattle.pw_store.specs.Keyed.{AreKeyed, IsEnergyRow, IsPaymentRow}
use Rattle.pw_store.specs.Frontier.{IsFrontier}
use Rattle.pw_store.specs.declared.frontier.Frontier.{Frontier}
use Rattle.pw_store.specs.Waiting.{with_waiting}
use Rattle.pw_store.specs.declared.waiting.WaitingPoint.{WaitingPoint}

-- a point is kept as a reading is, a start as an assignment
abbrev pub key_in_point : Row → Key
key_in_point r = (reading_in r).key

abbrev pub key_in_start : Row → Key
key_in_start r = (assignment_in r).key

-- ---- a database that is a store: our tables, each row a record, each record once; points, starts and totals by their keys,
-- and none in the table of totals by band alone
pub record IsStore (db : Database) : Type 0 where
  pub ours : IsOurs db.schema
  pub rows : (k : RecordKind) → AllByRecursion (IsRowOf k) (db.trees (tree_of k))
  pub once : EachOnce (records_of db.trees)
  pub points : AreKeyed IsReadingRow key_in_point (db.trees point_tree)
  pub starts : AreKeyed IsAssignmentRow key_in_start (db.trees start_tree)
  pub energies : AreKeyed IsEnergyRow energy_in (db.trees energy_tree)
  pub payments : AreKeyed IsPaymentRow payment_in (db.trees payment_tree)
  pub old : db.trees total_tree ≡ []

-- ---- what the fields keep to
-- what was committed last holds each record once, also when the connection is shut
abbrev pub BaseIsOnce : Sql → Sql → Type 0
BaseIsOnce s base = HasCleanDisk s → EachOnce (records_of base.committed.trees)

abbrev pub NowIsStore : Sql → Type 0
NowIsStore s = HasCleanDisk s → IsTrue s.is_open → IsStore s.now

abbrev pub CommittedIsStore : Sql → Type 0
CommittedIsStore s = HasCleanDisk s → IsTrue s.is_open → IsStore s.committed

-- nothing was committed since
abbrev pub IsSinceBase : Sql → Sql → Type 0
IsSinceBase s base = HasCleanDisk s → IsTrue s.is_open → s.committed.trees ≡ base.committed.trees

-- outside an upload nothing waits to be committed
abbrev pub IsIdle : Sql → Bool → Type 0
IsIdle s begun = HasCleanDisk s → IsTrue s.is_open → begun ≡ false → s.now.trees ≡ s.committed.trees

-- a transaction stands on an open connection
abbrev pub IsInside : Sql → Type 0
IsInside s = HasCleanDisk s → s.in_transaction ≡ true → IsTrue s.is_open

-- the connection is open, unless a statement has failed since it was last known to be
abbrev pub IsAwake : Sql → Bool → Type 0
IsAwake s doubtful = HasCleanDisk s → doubtful ≡ false → IsTrue s.is_open

-- so many records were committed last, also when the connection is shut
abbrev pub BaseIsCounted : Sql → ℕ → Sql → Type 0
BaseIsCounted s held base = HasCleanDisk s → length (records_of base.committed.trees) ≡ held

-- so many stand inside a transaction; and what is remembered of a register is so, while the connection is open
abbrev pub NowIsKnown : Sql → ℕ → Option Frontier → Type 0
NowIsKnown s within frontier = HasCleanDisk s → (s.in_transaction ≡ true → length (records_of s.now.trees) ≡ within) × (IsTrue s.is_open → IsFrontier frontier (records_of s.now.trees))

-- ---- the three members
-- While the connection is open its tables tell what is written. Once it is shut, that is what was committed last.
abbrev pub written_of : Sql → Sql → ShelfContent
written_of s base = content_of (cond s.is_open s.now.trees base.committed.trees)

abbrev pub begun_of : Bool → ShelfContent → Option ShelfContent
begun_of true c = Some c
begun_of false c = None

-- the content that an upload began with, if one is begun
abbrev pub begun_with : Bool → Sql → Option ShelfContent
begun_with begun base = begun_of begun (content_of base.committed.trees)

-- what is held is what is written, with the points that wait
abbrev pub state_of : List WaitingPoint → Sql → Sql → Bool → ℕ → ℕ → ℕ → State
state_of waiting s base begun failures failed_abandons tally = record {
  content = with_waiting waiting (written_of s base);
  begun = begun_with begun base;
  failures = failures;
  failed_abandons = failed_abandons;
  tally = tally;
}

-- some database that may be left has this content
abbrev pub left_of : Sql → ShelfContent → Type 0
left_of s c = (db : Trees) × s.may_leave db × (content_of db ≡ c)

-- ---- the two laws
pub once_held : (s base : Sql) → BaseIsOnce s base → NowIsStore s → HasCleanDisk s → EachOnce (written_of s base).records
once_held s base before now clean = go s.is_open refl
  where
    go : (b : Bool) → s.is_open ≡ b → EachOnce (records_of (cond b s.now.trees base.committed.trees))
    go true live = (now clean live).once
    go false shut = before clean

pub survives_left : (s : Sql) → ∥ ((db : Trees) × s.may_leave db) ∥₁ → ¬ ((c : ShelfContent) → ¬ (left_of s c))
survives_left s some none = ∥∥₁_elim some ⊥_prop (λ it. none (content_of it.0) (it.0, it.1, refl))
