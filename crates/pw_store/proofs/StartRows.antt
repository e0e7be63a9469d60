-- What DELETE and INSERT make of the starts.
use Rattle.std.proofs.Common.{◌≡◌, ℕ, pos, List, [], ◌∷◌, find, Bool, true, false, cond, not, ◌&&◌, Option, option_map, Some, None, Ok, Err, Result, OnOk, IsTrue, refl, sym, ap, subst, ◌∙◌, inl, nat_cmp, arith}
use Rattle.std.specs.List.{list_all, filter}
use Rattle.std.specs.Ordering.{is_eq}
use Rattle.sqlite.specs.declared.types.Value.TheVariants.{Null, Int}
use Rattle.sqlite.specs.declared.error.Error.{Error}
use Rattle.sqlite.specs.Order.{Row, column}
use Rattle.sqlite.specs.Term.{Term, holds}
use Rattle.sqlite.specs.Table.{Table}
use Rattle.sqlite.specs.Tree.{put_row}
use Rattle.sqlite.specs.Edit.{is_taken, next_rowid}
use Rattle.sqlite.specs.State.{State, Executes}
use Rattle.pw_tariff.specs.declared.ids.AccountId.{AccountId}
use Rattle.pw_tariff.specs.Cells.{owner_place}
use Rattle.pw_model.specs.declared.records.Key.TheVariants as key
use Rattle.pw_model.specs.Counting.{assignment_key}
use Rattle.pw_model.specs.Same.{same_key}
use Rattle.pw_model.proofs.Same.{same_key-decides}
use Rattle.pw_shelf.specs.Changes.{starts_with, with_start}
use Rattle.pw_schema.specs.Tables.{only_one, start_at}
use Rattle.pw_schema.specs.Rows.{number, owner_at}
use Rattle.pw_store.specs.Content.{energy_in, payment_in, IsReadingRow, IsAssignmentRow, start_in}
use Rattle.pw_store.specs.inner.Records.{assignment_row}
use Rattle.pw_store.specs.Keyed.{AreKeyed, IsEnergyRow, IsPaymentRow}
use Rattle.pw_store.specs.Kept.{IsStore, key_in_point, key_in_start}
use Rattle.pw_store.specs.inner.Changing.{Makes}
use Rattle.pw_store.proofs.Texts.{three_terms}
use Rattle.pw_store.proofs.KeptTexts.{delete_start_text, delete_start_query, delete_start_is, insert_start_text, insert_start_is}
use Rattle.pw_store.proofs.Scans.{equal_ints, tied}
use Rattle.pw_store.proofs.Finding.{first, second, same_number, meter_of, second_of}
use Rattle.pw_store.proofs.Adding.{cast_null, cast_int, owner_back, insert_inside, was_not}
use Rattle.pw_store.proofs.StillKept.{keeps_sums}
use Rattle.pw_store.proofs.Others.{AreElseSame, same_records, store_kept, content_with_start}
use Rattle.pw_store.proofs.KeptRows.{find_gone, gone_told, put_told, keyed_gone, keyed_put}
use Rattle.pw_store.proofs.OneTable.{HasDeleted, HasInserted, deletes, inserts, others_left}
use Rattle.pw_store.proofs.Taking.{edit_inside, both_true, none_found}

abbrev pub at_key : ℕ → ℕ → Row → Bool
at_key m i r = same_key (assignment_key m i) (key_in_start r)

abbrev pub params : ℕ → ℕ → Row
params m i = Int (pos m) ∷ Int (pos i) ∷ []

module _ (m i : ℕ) where
  abbrev pub passes : Row → Bool
  passes r = list_all (holds (params m i ∷ r ∷ [])) delete_start_query.filter

  tests : (r : Row) → IsAssignmentRow r → passes r ≡ (is_eq (nat_cmp (number (column r 1)) m) && (is_eq (nat_cmp (number (column r 2)) i) && true))
  tests r it = rw (it.0, it.1.0) (rw (equal_ints (number (column r 1)) m, equal_ints (number (column r 2)) i) refl)

  hits : (r : Row) → IsAssignmentRow r → passes r ≡ true → assignment_key m i ≡ key_in_start r
  hits r it hit =
      let h = sym (tests r it) ∙ hit in
      let h1 = second (is_eq (nat_cmp (number (column r 1)) m)) _ h in
      let em = tied (number (column r 1)) m (first _ _ h) in
      let ei = tied (number (column r 2)) i (first _ _ h1) in
      sym (λ j. key.Assignment (record { 0 = em j }) (ei j))

  misses : (r : Row) → IsAssignmentRow r → assignment_key m i ≡ key_in_start r → passes r ≡ true
  misses r it same =
      let em : number (column r 1) ≡ m = ap meter_of (sym same) in
      let ei : number (column r 2) ≡ i = ap second_of (sym same) in
      tests r it ∙ rw (em, ei) (rw (same_number m, same_number i) refl)

  pub passes_at : (r : Row) → IsAssignmentRow r → passes r ≡ at_key m i r
  passes_at r it = both_true (passes r) (at_key m i r) (λ hit. (same_key-decides (assignment_key m i) (key_in_start r)).1 (hits r it hit)) (λ same. misses r it ((same_key-decides (assignment_key m i) (key_in_start r)).0 same))

abbrev table : Table
table = start_at 9

-- ---- DELETE
module _ (old new : State) (m i : ℕ) (count : ℕ) (store : IsStore old.now) (inside : IsTrue old.in_transaction) (h : Executes delete_start_text (params m i) old new (Ok count)) where
  abbrev own : List Term
  own = only_one

  deleted : HasDeleted table delete_start_query.filter (params m i) old new
  deleted = deletes delete_start_text 5 (params m i) old new store.ours count h table delete_start_query.filter delete_start_is (λ out does. does) (λ _. refl)

  left : new.now.trees 9 ≡ filter (λ row. not (at_key m i row)) (old.now.trees 9)
  left = others_left table delete_start_query.filter (params m i) IsAssignmentRow (at_key m i) (passes_at m i) key_in_start old new deleted store.starts

  others : AreElseSame own 9 old.now.trees new.now.trees
  others = deleted.1.2.tables

  told_left : start_in (new.now.trees 9) ≡ starts_with (start_in (old.now.trees 9)) m i None
  told_left = λ j n u. (ap (λ rows. start_in rows n u) left ∙ gone_told same_key same_key-decides key_in_start (λ x. owner_at (number (column x 3))) (assignment_key m i) (assignment_key n u) (old.now.trees 9)) j

  pub takes : Makes (λ c. with_start c m i None) old new
  takes = record {
    store = store_kept old.now new.now deleted.0 (same_records own 9 old.now.trees new.now.trees (omega arith) (inl (omega arith)) others) store
        (subst (AreKeyed IsReadingRow key_in_point) (sym (others.1.1.1.1.0 (λ e. absurd (omega (arith, e))))) store.points)
        (subst (AreKeyed IsAssignmentRow key_in_start) (sym left) (keyed_gone same_key same_key-decides key_in_start (λ x. owner_at (number (column x 3))) IsAssignmentRow (assignment_key m i) (old.now.trees 9) store.starts))
        (subst (AreKeyed IsEnergyRow energy_in) (sym (others.1.1.1.1.1.1.1.1.1.1.1.0 (λ e. absurd (omega (arith, e))))) store.energies)
        (subst (AreKeyed IsPaymentRow payment_in) (sym (others.1.1.1.1.1.1.1.0 (λ e. absurd (omega (arith, e))))) store.payments)
        (others.1.1.1.1.1.1.0 (λ e. absurd (omega (arith, e))));
    keeps = keeps_sums own _ old.now.trees new.now.trees _ deleted.1.2 (omega arith) (omega arith) (others.1.1.1.1.1.1.1.1.1.1.1.0 (λ e. absurd (omega (arith, e)))) (others.1.1.1.1.1.1.1.0 (λ e. absurd (omega (arith, e))));
    content = content_with_start old.now.trees new.now.trees m i (None) (same_records own 9 old.now.trees new.now.trees (omega arith) (inl (omega arith)) others) (others.1.1.1.1.0 (λ e. absurd (omega (arith, e)))) (others.1.1.1.1.1.1.1.1.1.1.1.0 (λ e. absurd (omega (arith, e)))) (others.1.1.1.1.1.1.1.0 (λ e. absurd (omega (arith, e)))) told_left;
    shows = edit_inside false delete_start_text 5 delete_start_query delete_start_is old new store.ours (params m i) count h inside;
  }

  pub taken : start_in (new.now.trees 9) m i ≡ None
  taken = ap (option_map (λ x. owner_at (number (column x 3)))) (ap (find (at_key m i)) left ∙ find_gone (at_key m i) (old.now.trees 9))

-- ---- INSERT
module _ (old new : State) (m i : ℕ) (o : Option AccountId) (count : ℕ) (store : IsStore old.now) (inside : IsTrue old.in_transaction) (none : start_in (old.now.trees 9) m i ≡ None) (h : Executes insert_start_text (assignment_row m i (owner_place o)) old new (Ok count)) where
  abbrev checks : List Term
  checks = only_one

  abbrev given : Row
  given = assignment_row m i (owner_place o)

  inserted : HasInserted table (Null ∷ given) old new
  inserted = inserts insert_start_text 5 given old new store.ours count h table 4 three_terms (Null ∷ given) insert_start_is (λ out does. does) (λ _. refl) refl

  abbrev row : Row
  row = Int (next_rowid (old.now.trees 9)) ∷ given

  free : is_taken (old.now.trees 9) row ≡ false
  free = let fresh = rw cast_null at inserted.1.fresh in was_not _ (first _ _ fresh)

  put : new.now.trees 9 ≡ put_row row (old.now.trees 9)
  put = inserted.1.rows ∙ rw (cast_null, cast_int m, cast_int i, cast_int (owner_place o)) refl

  key_is : key_in_start row ≡ assignment_key m i
  key_is = refl

  unseen : find (at_key m i) (old.now.trees 9) ≡ None
  unseen = none_found (λ x. owner_at (number (column x 3))) (find (at_key m i) (old.now.trees 9)) none

  elsewhere : AreElseSame checks 9 old.now.trees new.now.trees
  elsewhere = inserted.1.tables

  told_put : start_in (new.now.trees 9) ≡ starts_with (start_in (old.now.trees 9)) m i (Some o)
  told_put = λ j n u. (ap (λ rows. start_in rows n u) put ∙ put_told same_key same_key-decides key_in_start (λ x. owner_at (number (column x 3))) (assignment_key m i) (assignment_key n u) row (old.now.trees 9) key_is free unseen ∙ ap (λ (p : Option AccountId). cond (same_key (assignment_key m i) (assignment_key n u)) (Some p) (start_in (old.now.trees 9) n u)) (owner_back o)) j

  pub puts : Makes (λ c. with_start c m i (Some o)) old new
  puts = record {
    store = store_kept old.now new.now inserted.0 (same_records checks 9 old.now.trees new.now.trees (omega arith) (inl (omega arith)) elsewhere) store
        (subst (AreKeyed IsReadingRow key_in_point) (sym (elsewhere.1.1.1.1.0 (λ e. absurd (omega (arith, e))))) store.points)
        (subst (AreKeyed IsAssignmentRow key_in_start) (sym put) (keyed_put same_key same_key-decides key_in_start (λ x. owner_at (number (column x 3))) IsAssignmentRow (assignment_key m i) row (old.now.trees 9) key_is (refl, (refl, refl)) refl free unseen store.starts))
        (subst (AreKeyed IsEnergyRow energy_in) (sym (elsewhere.1.1.1.1.1.1.1.1.1.1.1.0 (λ e. absurd (omega (arith, e))))) store.energies)
        (subst (AreKeyed IsPaymentRow payment_in) (sym (elsewhere.1.1.1.1.1.1.1.0 (λ e. absurd (omega (arith, e))))) store.payments)
        (elsewhere.1.1.1.1.1.1.0 (λ e. absurd (omega (arith, e))));
    keeps = keeps_sums checks _ old.now.trees new.now.trees _ inserted.1 (omega arith) (omega arith) (elsewhere.1.1.1.1.1.1.1.1.1.1.1.0 (λ e. absurd (omega (arith, e)))) (elsewhere.1.1.1.1.1.1.1.0 (λ e. absurd (omega (arith, e))));
    content = content_with_start old.now.trees new.now.trees m i (Some o) (same_records checks 9 old.now.trees new.now.trees (omega arith) (inl (omega arith)) elsewhere) (elsewhere.1.1.1.1.0 (λ e. absurd (omega (arith, e)))) (elsewhere.1.1.1.1.1.1.1.1.1.1.1.0 (λ e. absurd (omega (arith, e)))) (elsewhere.1.1.1.1.1.1.1.0 (λ e. absurd (omega (arith, e)))) told_put;
    shows = insert_inside insert_start_text 5 4 three_terms insert_start_is old new store.ours given count h inside;
  }

-- ---- whether it answered Ok or not
pub takes_if : (old new : State) (m i : ℕ) (r : Result ℕ Error) → IsStore old.now → IsTrue old.in_transaction → Executes delete_start_text (params m i) old new r → OnOk r (Makes (λ c. with_start c m i None) old new)
takes_if old new m i (Ok n) store inside h = takes old new m i n store inside h
takes_if old new m i (Err e) store inside h = tt

pub taken_if : (old new : State) (m i : ℕ) (r : Result ℕ Error) → IsStore old.now → IsTrue old.in_transaction → Executes delete_start_text (params m i) old new r → OnOk r (start_in (new.now.trees 9) m i ≡ None)
taken_if old new m i (Ok n) store inside h = taken old new m i n store inside h
taken_if old new m i (Err e) store inside h = tt

pub puts_if : (old new : State) (m i : ℕ) (o : Option AccountId) (r : Result ℕ Error) → IsStore old.now → IsTrue old.in_transaction → start_in (old.now.trees 9) m i ≡ None → Executes insert_start_text (assignment_row m i (owner_place o)) old new r → OnOk r (Makes (λ c. with_start c m i (Some o)) old new)
puts_if old new m i o (Ok n) store inside none h = puts old new m i o n store inside none h
puts_if old new m i o (Err e) store inside none h = tt
