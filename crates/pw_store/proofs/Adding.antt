-- What INSERT makes of the records.
use Rattle.std.proofs.Common.{arith, add-one, Option, ◌≡◌, ◌⊎◌, inl, inr, ◌<◌, ℕ, ℤ, pos, List, [], ◌∷◌, ◌++◌, codes, map, nat_eq, Bool, true, false, cond, not, ◌&&◌, Some, None, Ok, Err, Result, OnOk, OnErr, IsTrue, refl, sym, ap, subst, ◌∙◌}
use Rattle.std.specs.List.{AllByRecursion}
use Rattle.std.proofs.lemmas.Bool.{cases_eq}
use Rattle.sqlite.specs.declared.types.Value.{Value}
use Rattle.sqlite.specs.declared.types.Value.TheVariants.{Null, Int}
use Rattle.sqlite.specs.Order.{Row}
use Rattle.sqlite.specs.Ops.{unary}
use Rattle.sqlite.specs.Term.{Term}
use Rattle.sqlite.specs.Table.{Table}
use Rattle.sqlite_schema.specs.declared.schema.Column.{Column}
use Rattle.sqlite.specs.Kind.TheVariants.{Integer, Text}
use Rattle.sqlite.specs.Source.TheVariants.{Values}
use Rattle.sqlite.specs.Command.TheVariants.{Insert}
use Rattle.sqlite.specs.Edit.{is_taken, next_rowid}
use Rattle.sqlite.specs.Cast.{cast}
use Rattle.sqlite.specs.Tree.{put_row}
use Rattle.sqlite.specs.declared.error.Error.{Error}
use Rattle.sqlite.specs.Listing.{understood}
use Rattle.sqlite.specs.State.{State, Shows, HasCleanDisk, Executes, IsUnchanged, IsRolledBack, Survives, CommitsBy}
use Rattle.sqlite.proofs.Callers.{command_of, runs_as}
use Rattle.sqlite_trees.proofs.TreeLemmas.{all-put_row}
use Rattle.pw_obis.specs.declared.reference.Register.{Register}
use Rattle.pw_obis.specs.declared.reference.Register.TheVariants.{I0, I1, I2, E0, E1, E2}
use Rattle.pw_tariff.specs.declared.ids.AccountId.{AccountId}
use Rattle.pw_tariff.specs.declared.ids.MeterId.{MeterId}
use Rattle.pw_tariff.specs.Office.{register_place}
use Rattle.pw_tariff.specs.Cells.{owner_place}
use Rattle.pw_model.specs.Counting.{Member, IsInserted}
use Rattle.pw_shelf.proofs.InOrder.{inserted-once}
use Rattle.pw_schema.specs.Calls.{Writes}
use Rattle.pw_schema.specs.Tables.{ours_with, only_one, IsOurs, column_of, keyed, of_integers}
use Rattle.pw_schema.specs.Rows.{register_at, owner_at, withdrawal}
use Rattle.pw_schema.specs.declared.kind.RecordKind.{RecordKind}
use Rattle.pw_schema.specs.declared.kind.RecordKind.TheVariants.{Readings, Assignments, TopUps, WithdrawnReadings, WithdrawnAssignments, WithdrawnTopUps}
use Rattle.pw_schema.specs.declared.kind.StoreVersion.TheVariants.{Third}
use Rattle.pw_model.specs.declared.records.Entry.{Entry}
use Rattle.pw_model.specs.declared.records.Named.{Named}
use Rattle.pw_model.specs.declared.records.Named.TheVariants as named
use Rattle.pw_store.specs.Content.{records_of, entries_of, entry_in, kinds_of, tree_of, IsRowOf, energy_in, payment_in, IsReadingRow, IsAssignmentRow}
use Rattle.pw_store.specs.inner.Records.{reading_entry, assignment_entry, entry_as, named_row}
use Rattle.pw_store.specs.declared.forms.Form.{Form}
use Rattle.pw_store.specs.inner.Forms.{begun, insert}
use Rattle.pw_store.specs.declared.forms.Form.TheVariants.{Record, Withdrawal}
use Rattle.pw_store.specs.Kept.{IsStore, key_in_point, key_in_start}
use Rattle.pw_store.specs.Keyed.{AreKeyed, IsEnergyRow, IsPaymentRow}
use Rattle.pw_store.specs.inner.Changing.{Adds, StillKeeps}
use Rattle.pw_store.proofs.StillKept.{keeps_sums}
use Rattle.pw_store.proofs.Others.{SameSums, else_same, same_sums, with_record}
use Rattle.pw_store.proofs.OfKinds.{by_kind, each_kind, inserted_among, kinds_once}
use Rattle.pw_store.proofs.Texts.{IsInsert, four_terms, insert_is, kind_as, place_of, terms_of, three_terms, width_of}
use Rattle.pw_schema.proofs.Outcomes.{fails, keeps_commit}
pub use Rattle.pw_schema.proofs.OfficeRow.{cast_int, cast_null}
use Rattle.pw_store.proofs.OneTable.{HasInserted, inserts}
use Rattle.pw_store.proofs.Placing.{put_inserts}

either : (b : Bool) (x : Value) → cond b x x ≡ x
either true x = refl
either false x = refl

-- of any rowid
pub cast_rowid : (n : ℤ) → cast Integer (Int n) ≡ Int n
unfolding unary
cast_rowid n = either _ (Int n)

pub was_not : (b : Bool) → not b ≡ true → b ≡ false
was_not true e = absurd (let f : true ≡ false = sym e in cc)
was_not false e = refl

and_first : (a b : Bool) → (a && b) ≡ true → a ≡ true
and_first true b e = refl
and_first false b e = e

-- a schema that is that of our tables with some checks is ours
-- ---- any statement that inserts
module _ (text : List ℕ) (at width : ℕ) (terms : List Term) (it : IsInsert text at width terms) (old new : State) (ours : IsOurs old.now.schema) (params : Row) where
  abbrev checks : List Term
  checks = only_one

  pub insert_inside : (count : ℕ) → Executes text params old new (Ok count) → IsTrue old.in_transaction → Shows old new new.now old.committed true
  insert_inside count h inside =
      let w = runs_as text params old new (ours_with checks) ours (Insert at (Values terms width)) (it.is checks) (it.plain checks) count h in
      let is : old.in_transaction ≡ true = inside in
      subst (λ b. Shows old new new.now (cond b old.committed new.now) b) is w.shown

pub execute_fails : (text : List ℕ) (old new : State) (params : Row) (r : Result ℕ Error) → Executes text params old new r → OnErr r (IsUnchanged old new ⊎ IsRolledBack old new)
execute_fails text old new params (Ok n) h = tt
execute_fails text old new params (Err e) h = fails old new text params e h

pub insert_survives : (text : List ℕ) (at width : ℕ) (terms : List Term) → IsInsert text at width terms → (old new : State) (params : Row) → (HasCleanDisk old → IsOurs old.now.schema) → (HasCleanDisk old → IsTrue old.in_transaction) → Survives old new (CommitsBy text params old) → Survives old new (λ _. ⊥)
insert_survives text at width terms it old new params ours inside =
    keeps_commit old new text params (Insert at (Values terms width)) (λ clean. ap (λ s. command_of (understood s text)) (ours clean) ∙ it.is only_one) (λ name e. absurd cc) (λ e. absurd cc) inside

pub inserts_if : (text : List ℕ) (at width : ℕ) (terms : List Term) → IsInsert text at width terms → (old new : State) (params : Row) (r : Result ℕ Error) → (HasCleanDisk old → IsOurs old.now.schema) → (HasCleanDisk old → IsTrue old.in_transaction) → (HasCleanDisk new → Executes text params old new r) → Survives old new (CommitsBy text params old) → Writes r old new
inserts_if text at width terms it old new params r ours inside runs s = record {
  failed = λ clean. execute_fails text old new params r (runs clean);
  crash = insert_survives text at width terms it old new params ours inside s;
}

-- ---- places of registers and owners
pub register_back : (r : Register) → register_at (register_place r) ≡ r
register_back I0 = refl
register_back I1 = refl
register_back I2 = refl
register_back E0 = refl
register_back E1 = refl
register_back E2 = refl

pub owner_back : (o : Option AccountId) → owner_at (owner_place o) ≡ o
owner_back None = refl
owner_back (Some a) = ap owner_at (add-one a.0)

-- ---- a row more in the table of a kind
-- the kind whose table has a tree
abbrev kind_in : ℕ → RecordKind
kind_in tree = cond (nat_eq tree 1) Readings (cond (nat_eq tree 3) Assignments (cond (nat_eq tree 5) TopUps (cond (nat_eq tree 14) WithdrawnReadings (cond (nat_eq tree 16) WithdrawnAssignments WithdrawnTopUps))))

kind_back : (k : RecordKind) → kind_in (tree_of k) ≡ k
kind_back = by_kind (λ k. kind_in (tree_of k) ≡ k) refl refl refl refl refl refl

one_tree : (j k : RecordKind) → tree_of j ≡ tree_of k → j ≡ k
one_tree j k e = sym (kind_back j) ∙ ap kind_in e ∙ kind_back k

same_kind_or_not : (j k : RecordKind) → (j ≡ k) ⊎ (j ≡ k → ⊥)
same_kind_or_not j k = elim (cases_eq (tree_of j) (tree_of k)) [
  | inl same ↦ inl (one_tree j k same)
  | inr apart ↦ inr (λ e. apart (ap tree_of e))
]

outside : (k : RecordKind) → (tree_of k < 7) ⊎ ((13 < tree_of k) × (tree_of k < 20))
outside = by_kind (λ k. (tree_of k < 7) ⊎ ((13 < tree_of k) × (tree_of k < 20))) (inl (omega arith)) (inl (omega arith)) (inl (omega arith)) (inr (omega arith, omega arith)) (inr (omega arith, omega arith)) (inr (omega arith, omega arith))

behind_office : (k : RecordKind) → (0 < tree_of k) × (tree_of k < 22)
behind_office = by_kind (λ k. (0 < tree_of k) × (tree_of k < 22)) (omega arith, omega arith) (omega arith, omega arith) (omega arith, omega arith) (omega arith, omega arith) (omega arith, omega arith) (omega arith, omega arith)

module _ (k : RecordKind) (table : Table) (given row : Row) (e : Entry) (old new : State) (at : table.tree ≡ tree_of k) (store : IsStore old.now) (applied : HasInserted table given old new)
    (rows : new.now.trees (tree_of k) ≡ put_row row (old.now.trees (tree_of k))) (free : is_taken (old.now.trees (tree_of k)) row ≡ false) (is_row : IsRowOf k row) (one : entry_in k row ≡ e) where
  others : (j : RecordKind) → (j ≡ k → ⊥) → new.now.trees (tree_of j) ≡ old.now.trees (tree_of j)
  others j apart = else_same only_one table.tree old.now.trees new.now.trees applied.1.tables j (λ same. apart (one_tree j k (same ∙ at)))

  inserted : IsInserted e (records_of old.now.trees) (records_of new.now.trees)
  inserted =
      let here = subst (λ x. IsInserted x (entries_of k old.now.trees) (map (entry_in k) (put_row row (old.now.trees (tree_of k))))) one (put_inserts (entry_in k) row (old.now.trees (tree_of k)) free) in
      inserted_among (kinds_of Third) old.now.trees new.now.trees k e (kinds_once Third) (each_kind k) others
      (subst (λ xs. IsInserted e (entries_of k old.now.trees) (map (entry_in k) xs)) (sym rows) here)

  sums : SameSums old.now.trees new.now.trees
  sums = same_sums only_one table.tree old.now.trees new.now.trees (subst (λ t. (t < 7) ⊎ ((13 < t) × (t < 20))) (sym at) (outside k)) applied.1.tables

  keeps : StillKeeps old.now.trees new.now.trees
  keeps =
      let low = subst (λ t. (0 < t) × (t < 22)) (sym at) (behind_office k) in
      keeps_sums only_one _ old.now.trees new.now.trees _ applied.1 low.0 low.1 sums.energy sums.payment

  kept_rows : (j : RecordKind) → AllByRecursion (IsRowOf j) (new.now.trees (tree_of j))
  kept_rows j = elim (same_kind_or_not j k) [
    | inl same ↦ subst (λ l. AllByRecursion (IsRowOf l) (new.now.trees (tree_of l))) (sym same) (subst (AllByRecursion (IsRowOf k)) (sym rows) (all-put_row (IsRowOf k) row (old.now.trees (tree_of k)) is_row (store.rows k)))
    | inr apart ↦ subst (AllByRecursion (IsRowOf j)) (sym (others j apart)) (store.rows j)
  ]

  stores : (Member e (records_of old.now.trees) → ⊥) → IsStore new.now
  stores fresh = record {
    ours = applied.0;
    rows = kept_rows;
    once = inserted-once e (records_of old.now.trees) (records_of new.now.trees) inserted fresh store.once;
    points = subst (AreKeyed IsReadingRow key_in_point) (sym sums.point) store.points;
    starts = subst (AreKeyed IsAssignmentRow key_in_start) (sym sums.start) store.starts;
    energies = subst (AreKeyed IsEnergyRow energy_in) (sym sums.energy) store.energies;
    payments = subst (AreKeyed IsPaymentRow payment_in) (sym sums.payment) store.payments;
    old = sums.old_total ∙ store.old;
  }

  pub adds : (Member e (records_of old.now.trees) → ⊥) → Shows old new new.now old.committed true → Adds e old new
  adds fresh shows = record {
    store = stores fresh;
    keeps = keeps;
    content = with_record e old.now.trees new.now.trees inserted sums;
    shows = shows;
  }

-- ---- what is named, by the form in which it is kept
abbrev columns_of : Named → List Column
columns_of (named.Reading m r t w) = of_integers (codes "meter" ∷ codes "register" ∷ codes "instant" ∷ codes "wh" ∷ [])
columns_of (named.Assignment m t o) = of_integers (codes "meter" ∷ codes "start" ∷ codes "owner" ∷ [])
columns_of (named.TopUp r a c t) = column_of (codes "reference") Text ∷ of_integers (codes "account" ∷ codes "cents" ∷ codes "instant" ∷ [])

abbrev key_of : Named → List ℕ
key_of (named.Assignment m t o) = 1 ∷ 2 ∷ 3 ∷ []
key_of _ = 1 ∷ 2 ∷ 3 ∷ 4 ∷ []

abbrev noun_of : Named → List ℕ
noun_of (named.Reading m r t w) = codes "reading"
noun_of (named.Assignment m t o) = codes "assignment"
noun_of (named.TopUp r a c t) = codes "topup"

abbrev table_as : Form → Named → Table
table_as form n = keyed (begun form ++ noun_of n) (tree_of (kind_as form n)) (columns_of n) (key_of n)

abbrev HasPut : Form → Named → State → State → Type 0
HasPut form n old new = HasInserted (table_as form n) (Null ∷ named_row n) old new

abbrev Puts : Form → Named → Type 1
Puts form n = (old new : State) (ours : IsOurs old.now.schema) (count : ℕ) (h : Executes (insert form n) (named_row n) old new (Ok count)) → HasPut form n old new

puts : (form : Form) (n : Named) → Puts form n
puts Record (named.Reading m r t w) old new ours count h = inserts _ 1 _ old new ours count h (table_as Record (named.Reading m r t w)) 5 four_terms _ (insert_is Record (named.Reading m r t w)) (λ o does. does) (λ _. refl) refl
puts Record (named.Assignment m t o) old new ours count h = inserts _ 2 _ old new ours count h (table_as Record (named.Assignment m t o)) 4 three_terms _ (insert_is Record (named.Assignment m t o)) (λ o does. does) (λ _. refl) refl
puts Record (named.TopUp r a c t) old new ours count h = inserts _ 3 _ old new ours count h (table_as Record (named.TopUp r a c t)) 5 four_terms _ (insert_is Record (named.TopUp r a c t)) (λ o does. does) (λ _. refl) refl
puts Withdrawal (named.Reading m r t w) old new ours count h = inserts _ 8 _ old new ours count h (table_as Withdrawal (named.Reading m r t w)) 5 four_terms _ (insert_is Withdrawal (named.Reading m r t w)) (λ o does. does) (λ _. refl) refl
puts Withdrawal (named.Assignment m t o) old new ours count h = inserts _ 9 _ old new ours count h (table_as Withdrawal (named.Assignment m t o)) 4 three_terms _ (insert_is Withdrawal (named.Assignment m t o)) (λ o does. does) (λ _. refl) refl
puts Withdrawal (named.TopUp r a c t) old new ours count h = inserts _ 10 _ old new ours count h (table_as Withdrawal (named.TopUp r a c t)) 5 four_terms _ (insert_is Withdrawal (named.TopUp r a c t)) (λ o does. does) (λ _. refl) refl

-- its row
abbrev row_as : ℤ → Named → Row
row_as id n = Int id ∷ named_row n

-- it stands in its table, and nothing had its rowid
abbrev new_row : Form → Named → State → Row
new_row form n old = row_as (next_rowid (old.now.trees (tree_of (kind_as form n)))) n

abbrev IsPut : Form → Named → State → State → Type 0
IsPut form n old new =
    (new.now.trees (tree_of (kind_as form n)) ≡ put_row (new_row form n old) (old.now.trees (tree_of (kind_as form n)))) × (is_taken (old.now.trees (tree_of (kind_as form n))) (new_row form n old) ≡ false)

is_put : (form : Form) (n : Named) (old new : State) → HasPut form n old new → IsPut form n old new
is_put form (named.Reading m r t w) old new it = (it.1.rows ∙ rw (cast_null, cast_int m.0, cast_int (register_place r), cast_int t, cast_int w) refl, (let was = rw cast_null at it.1.fresh in was_not _ (and_first _ _ was)))
is_put form (named.Assignment m t o) old new it = (it.1.rows ∙ rw (cast_null, cast_int m.0, cast_int t, cast_int (owner_place o)) refl, (let was = rw cast_null at it.1.fresh in was_not _ (and_first _ _ was)))
is_put form (named.TopUp r a c t) old new it = (it.1.rows ∙ rw (cast_null, cast_int a.0, cast_int c, cast_int t) refl, (let was = rw cast_null at it.1.fresh in was_not _ (and_first _ _ was)))

-- what it tells
reading_row_is : (m : MeterId) (r : Register) (t w : ℕ) (id : ℤ) → IsReadingRow (row_as id (named.Reading m r t w))
reading_row_is m r t w id = (refl, (ap (λ (s : Register). Int (pos (register_place s))) (sym (register_back r)), (refl, refl)))

row_is : (form : Form) (n : Named) (id : ℤ) → IsRowOf (kind_as form n) (row_as id n)
row_is Record (named.Reading m r t w) id = reading_row_is m r t w id
row_is Record (named.Assignment m t o) id = (refl, (refl, refl))
row_is Record (named.TopUp r a c t) id = (refl, (refl, (refl, refl)))
row_is Withdrawal (named.Reading m r t w) id = reading_row_is m r t w id
row_is Withdrawal (named.Assignment m t o) id = (refl, (refl, refl))
row_is Withdrawal (named.TopUp r a c t) id = (refl, (refl, (refl, refl)))

told : (form : Form) (n : Named) (id : ℤ) → entry_in (kind_as form n) (row_as id n) ≡ entry_as form n
told Record (named.Reading m r t w) id = ap (λ (s : Register). reading_entry m s t w) (register_back r)
told Record (named.Assignment m t o) id = ap (λ (p : Option AccountId). assignment_entry m t p) (owner_back o)
told Record (named.TopUp r a c t) id = refl
told Withdrawal (named.Reading m r t w) id = ap (λ (s : Register). withdrawal (named.Reading m s t w)) (register_back r)
told Withdrawal (named.Assignment m t o) id = ap (λ (p : Option AccountId). withdrawal (named.Assignment m t p)) (owner_back o)
told Withdrawal (named.TopUp r a c t) id = refl

-- whether it answered Ok or not
pub adds_named : (form : Form) (n : Named) (old new : State) (out : Result ℕ Error) → IsStore old.now → IsTrue old.in_transaction → (Member (entry_as form n) (records_of old.now.trees) → ⊥) → Executes (insert form n) (named_row n) old new out → OnOk out (Adds (entry_as form n) old new)
adds_named form n old new (Err f) store inside fresh h = tt
adds_named form n old new (Ok count) store inside fresh h =
    let applied = puts form n old new store.ours count h in
    let put = is_put form n old new applied in
    let id = next_rowid (old.now.trees (tree_of (kind_as form n))) in
    adds (kind_as form n) (table_as form n) (Null ∷ named_row n) (row_as id n) (entry_as form n) old new refl store applied put.0 put.1 (row_is form n id) (told form n id) fresh
    (insert_inside (insert form n) (place_of (kind_as form n)) (width_of n) (terms_of n) (insert_is form n) old new store.ours (named_row n) count h inside)
