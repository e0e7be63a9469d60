-- What is kept of a store has one proof at most.
use Rattle.std.specs.Prelude.{◌≡◌, ℕ, Option, Some, None, List, [], length, map, Bool, true}
use mathlib.Core.HLevel.{Unit-prop, ⊥_prop}
use Rattle.std.specs.Coded.{×_prop, Π_prop, Coded-set}
use mathlib.Core.Bool.{Bool-set}
use native.Mathlib.Nat.{ℕ_set}
use Rattle.sqlite.specs.Order.{Row}
use Rattle.sqlite.specs.Tree.{Trees, rowid}
use Rattle.sqlite_trees.specs.Objects.{catalog_tree}
use Rattle.sqlite.specs.Effect.{Database}
use Rattle.sqlite.specs.State.{State as Sql}
use Rattle.sqlite_trees.specs.Props.{Trees-set, rows_set, AllByRecursion-prop}
use Rattle.sqlite_value.specs.declared.value.Value.{Value}
use Rattle.sqlite_value.specs.contracts.value.Value as value
use Rattle.sqlite_schema.specs.contracts.schema.Schema as schema_row
use Rattle.pw_shelf.specs.inner.Held.{EachOnce-prop}
use Rattle.pw_store.specs.Content.{IsReadingRow, IsAssignmentRow, IsTopupRow, IsRowOf, energy_in, payment_in, point_tree, start_tree, total_tree, energy_tree, payment_tree, records_of, records_of_version, tree_of}
use Rattle.pw_schema.specs.declared.kind.RecordKind.{RecordKind}
use Rattle.pw_schema.specs.declared.kind.RecordKind.TheVariants.{Readings, Assignments, TopUps, WithdrawnReadings, WithdrawnAssignments, WithdrawnTopUps}
use Rattle.pw_schema.specs.declared.kind.StoreVersion.{StoreVersion}
use Rattle.pw_schema.specs.declared.kind.StoreVersion.TheVariants.{First, Second, Third}
use Rattle.pw_store.specs.Keyed.{AreKeyed, HasRowid, IsEnergyRow, IsPaymentRow}
use Rattle.pw_store.specs.Opening.{AreRows, HasEnergies, HasEnergiesOf, HasRows}
use Rattle.pw_obis.specs.declared.reference.Register.{Register}
use Rattle.pw_tariff.specs.declared.ids.MeterId.{MeterId}
use Rattle.pw_model.specs.declared.records.Entry.{Entry}
use Rattle.pw_store.specs.Frontier.{IsFrontier, NoneFrom}
use Rattle.pw_store.specs.declared.frontier.Frontier.{Frontier}
use Rattle.pw_store.specs.Waiting.{NoneWaits}
use Rattle.pw_store.specs.declared.waiting.WaitingPoint.{WaitingPoint}
use Rattle.pw_store.specs.Left.{IsOldEnergy, IsOldPayment, Keeps, IsLeftOf, KeepsOpened}
use Rattle.pw_store.specs.Kept.{key_in_point, key_in_start, IsStore, BaseIsOnce, NowIsStore, CommittedIsStore, IsSinceBase, IsIdle, IsInside, IsAwake, BaseIsCounted, NowIsKnown}

-- ---- a fact has one proof at most
same_value : {a b : Value} → IsProp (a ≡ b)
same_value {a} {b} = Coded-set value.the_row.coded a b

pub IsReadingRow-prop : (r : Row) → IsProp (IsReadingRow r)
IsReadingRow-prop r = ×_prop same_value (×_prop same_value (×_prop same_value same_value))

pub IsAssignmentRow-prop : (r : Row) → IsProp (IsAssignmentRow r)
IsAssignmentRow-prop r = ×_prop same_value (×_prop same_value same_value)

pub IsTopupRow-prop : (r : Row) → IsProp (IsTopupRow r)
IsTopupRow-prop r = ×_prop same_value (×_prop same_value (×_prop same_value same_value))

pub IsRowOf-prop : (k : RecordKind) (r : Row) → IsProp (IsRowOf k r)
IsRowOf-prop Readings r = IsReadingRow-prop r
IsRowOf-prop Assignments r = IsAssignmentRow-prop r
IsRowOf-prop TopUps r = IsTopupRow-prop r
IsRowOf-prop WithdrawnReadings r = IsReadingRow-prop r
IsRowOf-prop WithdrawnAssignments r = IsAssignmentRow-prop r
IsRowOf-prop WithdrawnTopUps r = IsTopupRow-prop r

pub IsEnergyRow-prop : (r : Row) → IsProp (IsEnergyRow r)
IsEnergyRow-prop r = ×_prop same_value (×_prop same_value (×_prop same_value (×_prop same_value same_value)))

pub IsPaymentRow-prop : (r : Row) → IsProp (IsPaymentRow r)
IsPaymentRow-prop r = ×_prop same_value same_value

pub AreKeyed-prop : {K : Type 0} (IsRow : Row → Type 0) → ((r : Row) → IsProp (IsRow r)) → (key_in : Row → K) (rows : List Row) → IsProp (AreKeyed IsRow key_in rows)
AreKeyed-prop IsRow prop key_in rows a b = λ i. record {
  each = AllByRecursion-prop IsRow prop rows a.each b.each i;
  ids = AllByRecursion-prop HasRowid (λ r. same_value) rows a.ids b.ids i;
  numbered = EachOnce-prop (map rowid rows) a.numbered b.numbered i;
  once = EachOnce-prop (map key_in rows) a.once b.once i;
}

pub IsStore-prop : (db : Database) → IsProp (IsStore db)
IsStore-prop db a b = λ i. record {
  ours = Coded-set schema_row.the_row.coded db.schema _ a.ours b.ours i;
  rows = Π_prop (λ k. AllByRecursion-prop (IsRowOf k) (IsRowOf-prop k) (db.trees (tree_of k))) a.rows b.rows i;
  once = EachOnce-prop (records_of db.trees) a.once b.once i;
  points = AreKeyed-prop IsReadingRow IsReadingRow-prop key_in_point (db.trees point_tree) a.points b.points i;
  starts = AreKeyed-prop IsAssignmentRow IsAssignmentRow-prop key_in_start (db.trees start_tree) a.starts b.starts i;
  energies = AreKeyed-prop IsEnergyRow IsEnergyRow-prop energy_in (db.trees energy_tree) a.energies b.energies i;
  payments = AreKeyed-prop IsPaymentRow IsPaymentRow-prop payment_in (db.trees payment_tree) a.payments b.payments i;
  old = rows_set (db.trees total_tree) [] a.old b.old i;
}

pub BaseIsOnce-prop : (s base : Sql) → IsProp (BaseIsOnce s base)
BaseIsOnce-prop s base = Π_prop λ _. EachOnce-prop (records_of base.committed.trees)

pub NowIsStore-prop : (s : Sql) → IsProp (NowIsStore s)
NowIsStore-prop s = Π_prop λ _. Π_prop λ _. IsStore-prop s.now

pub CommittedIsStore-prop : (s : Sql) → IsProp (CommittedIsStore s)
CommittedIsStore-prop s = Π_prop λ _. Π_prop λ _. IsStore-prop s.committed

pub IsSinceBase-prop : (s base : Sql) → IsProp (IsSinceBase s base)
IsSinceBase-prop s base = Π_prop λ _. Π_prop λ _. Trees-set s.committed.trees base.committed.trees

pub IsIdle-prop : (s : Sql) (begun : Bool) → IsProp (IsIdle s begun)
IsIdle-prop s begun = Π_prop λ _. Π_prop λ _. Π_prop λ _. Trees-set s.now.trees s.committed.trees

pub IsInside-prop : (s : Sql) → IsProp (IsInside s)
IsInside-prop s = Π_prop λ _. Π_prop λ _. Bool-set s.is_open true

pub IsAwake-prop : (s : Sql) (doubtful : Bool) → IsProp (IsAwake s doubtful)
IsAwake-prop s doubtful = Π_prop λ _. Π_prop λ _. Bool-set s.is_open true

pub BaseIsCounted-prop : (s : Sql) (held : ℕ) (base : Sql) → IsProp (BaseIsCounted s held base)
BaseIsCounted-prop s held base = Π_prop λ _. ℕ_set (length (records_of base.committed.trees)) held

NoneFrom-prop : (m : MeterId) (r : Register) (from : Option ℕ) (records : List Entry) → IsProp (NoneFrom m r from records)
NoneFrom-prop m r None records = Unit-prop
NoneFrom-prop m r (Some from) records = Π_prop λ _. Π_prop λ _. Π_prop λ _. Π_prop λ _. Π_prop λ _. ⊥_prop

IsFrontier-prop : (frontier : Option Frontier) (records : List Entry) → IsProp (IsFrontier frontier records)
IsFrontier-prop None records = Unit-prop
IsFrontier-prop (Some f) records = NoneFrom-prop f.meter f.register f.from records

pub NowIsKnown-prop : (s : Sql) (within : ℕ) (frontier : Option Frontier) → IsProp (NowIsKnown s within frontier)
NowIsKnown-prop s within frontier = Π_prop λ _. ×_prop (Π_prop λ _. ℕ_set (length (records_of s.now.trees)) within) (Π_prop λ _. IsFrontier-prop frontier (records_of s.now.trees))

pub NoneWaits-prop : (begun : Bool) (waiting : List WaitingPoint) → IsProp (NoneWaits begun waiting)
NoneWaits-prop begun waiting = Π_prop λ _. ℕ_set (length waiting) 0

-- ---- what is kept of the store that was opened
AreRows-prop : {K : Type 0} (IsRow : Row → Type 0) → ((r : Row) → IsProp (IsRow r)) → (key_in : Row → K) (rows : List Row) → IsProp (AreRows IsRow key_in rows)
AreRows-prop IsRow prop key_in rows a b = λ i. record {
  each = AllByRecursion-prop IsRow prop rows a.each b.each i;
  once = EachOnce-prop (map key_in rows) a.once b.once i;
}

HasEnergies-prop : (db : Trees) → IsProp (HasEnergies db)
HasEnergies-prop db a b = λ i. record {
  rows = AreRows-prop IsEnergyRow IsEnergyRow-prop energy_in (db energy_tree) a.rows b.rows i;
  none = rows_set (db total_tree) [] a.none b.none i;
}

HasEnergiesOf-prop : (v : StoreVersion) (db : Trees) → IsProp (HasEnergiesOf v db)
HasEnergiesOf-prop First db = Unit-prop
HasEnergiesOf-prop Second db = Unit-prop
HasEnergiesOf-prop Third db = HasEnergies-prop db

HasRows-prop : (v : StoreVersion) (db : Trees) → IsProp (HasRows v db)
HasRows-prop v db a b = λ i. record {
  rows = Π_prop (λ k. Π_prop λ _. AllByRecursion-prop (IsRowOf k) (IsRowOf-prop k) (db (tree_of k))) a.rows b.rows i;
  once = EachOnce-prop (records_of_version v db) a.once b.once i;
  points = AreRows-prop IsReadingRow IsReadingRow-prop key_in_point (db point_tree) a.points b.points i;
  starts = AreRows-prop IsAssignmentRow IsAssignmentRow-prop key_in_start (db start_tree) a.starts b.starts i;
  energies = HasEnergiesOf-prop v db a.energies b.energies i;
  payments = AreRows-prop IsPaymentRow IsPaymentRow-prop payment_in (db payment_tree) a.payments b.payments i;
}

Keeps-prop : (before db : Trees) → IsProp (Keeps before db)
Keeps-prop before db a b = λ i. record {
  listed = rows_set (db catalog_tree) (before catalog_tree) a.listed b.listed i;
  office = rows_set (db 0) (before 0) a.office b.office i;
  energies = AllByRecursion-prop (IsOldEnergy before) (λ r. Π_prop λ _. Π_prop λ _. ⊥_prop) (db energy_tree) a.energies b.energies i;
  payments = AllByRecursion-prop (IsOldPayment before) (λ r. Π_prop λ _. Π_prop λ _. ⊥_prop) (db payment_tree) a.payments b.payments i;
}

IsLeftOf-prop : (s opened : Sql) → IsProp (IsLeftOf s opened)
IsLeftOf-prop s opened a b = λ i. record {
  ours = Π_prop (λ found. Π_prop λ _. Π_prop λ _. Coded-set schema_row.the_row.coded found.schema _) a.ours b.ours i;
  now = Π_prop (λ _. Keeps-prop opened.now.trees s.now.trees) a.now b.now i;
  committed = Π_prop (λ _. Keeps-prop opened.now.trees s.committed.trees) a.committed b.committed i;
  left = Π_prop (λ db. Π_prop λ _. ×_prop (HasRows-prop Third db) (Keeps-prop opened.now.trees db)) a.left b.left i;
}

pub KeepsOpened-prop : (s opened : Sql) → IsProp (KeepsOpened s opened)
KeepsOpened-prop s opened = Π_prop λ _. IsLeftOf-prop s opened
