-- What DELETE and INSERT make of the points.
use Rattle.std.proofs.Common.{◌≡◌, ℕ, pos, List, [], ◌∷◌, ◌++◌, drop, map, find, Bool, true, false, not, ◌&&◌, None, Ok, Err, Result, OnOk, IsTrue, refl, sym, ap, subst, ◌∙◌, inl, nat_cmp, arith}
use Rattle.std.specs.List.{AllByRecursion, list_all, filter}
use Rattle.std.specs.Ordering.{is_eq}
use Rattle.sqlite.specs.declared.types.Value.TheVariants.{Null, Int}
use Rattle.sqlite.specs.declared.error.Error.{Error}
use Rattle.sqlite.specs.Order.{Row, column}
use Rattle.sqlite.specs.Term.{Term, holds}
use Rattle.sqlite.specs.Table.{Table}
use Rattle.sqlite.specs.Tree.{put_row, rowid}
use Rattle.sqlite.specs.Edit.{are_fresh, is_taken, next_rowid, numbered, put_all}
use Rattle.sqlite.specs.Cast.{cast_row}
use Rattle.sqlite.specs.Rowids.TheVariants.{Chosen}
use Rattle.sqlite.specs.State.{State, Executes, Shows}
use Rattle.sqlite_schema.specs.declared.schema.Constraint.TheVariants.{Unique}
use Rattle.sqlite_schema.specs.Rules as rule
use Rattle.sqlite_schema.specs.Rules.{agree, clashes, differ}
use Rattle.sqlite_trees.proofs.ListLemmas.{all_weaker}
use Rattle.sqlite_value.specs.Keys.{first_key, plain}
use Rattle.pw_obis.specs.declared.reference.Register.{Register}
use Rattle.pw_tariff.specs.Office.{register_place}
use Rattle.pw_model.specs.declared.records.Key.{Key}
use Rattle.pw_model.specs.declared.records.Key.TheVariants as key
use Rattle.pw_model.specs.Counting.{reading_key}
use Rattle.pw_model.specs.Same.{same_key}
use Rattle.pw_model.proofs.Same.{same_key-decides}
use Rattle.pw_shelf.specs.Changes.{points_with, with_point}
use Rattle.pw_schema.specs.Tables.{only_one, ours_with, point_at}
use Rattle.pw_schema.specs.Rows.{number, register_at}
use Rattle.pw_store.specs.Content.{energy_in, payment_in, IsReadingRow, IsAssignmentRow, point_in}
use Rattle.pw_store.specs.Waiting.{points_over, with_one, with_waiting}
use Rattle.pw_store.specs.declared.waiting.WaitingPoint.{WaitingPoint}
use Rattle.pw_store.specs.inner.Records.{reading_row}
use Rattle.pw_store.specs.Keyed.{AreKeyed, IsEnergyRow, IsPaymentRow}
use Rattle.pw_store.specs.Kept.{IsStore, key_in_point, key_in_start}
use Rattle.pw_store.specs.inner.Changing.{Makes}
use Rattle.pw_store.proofs.Texts.{four_terms}
use Rattle.pw_store.proofs.KeptTexts.{delete_point_text, delete_point_query, delete_point_is, insert_point_text, insert_point_is, insert_points_text, insert_points_is, points_terms}
use Rattle.pw_store.proofs.Scans.{equal_ints, tied}
use Rattle.pw_store.proofs.Finding.{first, second, same_number, meter_of, register_of, second_of}
use Rattle.pw_store.proofs.Adding.{cast_null, cast_int, register_back, insert_inside, was_not}
use Rattle.pw_store.proofs.StillKept.{keeps_sums}
use Rattle.pw_store.proofs.Others.{AreElseSame, same_records, store_kept, content_with_point, content_with_points}
use Rattle.pw_store.proofs.Clashing.{all_earlier, key_free, none_earlier, of_new}
use Rattle.pw_store.proofs.KeptRows.{gone_told, put_told, keyed_gone, keyed_put}
use Rattle.pw_store.proofs.OneTable.{HasDeleted, HasInsertedAll, deletes, inserts_all, others_left}
use Rattle.pw_store.proofs.Taking.{edit_inside, both_true}

abbrev pub at_key : ℕ → Register → ℕ → Row → Bool
at_key m g i r = same_key (reading_key m g i) (key_in_point r)

abbrev pub params : ℕ → Register → ℕ → Row
params m g i = Int (pos m) ∷ Int (pos (register_place g)) ∷ Int (pos i) ∷ []

module _ (m : ℕ) (g : Register) (i : ℕ) where
  abbrev pub passes : Row → Bool
  passes r = list_all (holds (params m g i ∷ r ∷ [])) delete_point_query.filter

  tests : (r : Row) → IsReadingRow r → passes r ≡ (is_eq (nat_cmp (number (column r 1)) m) && (is_eq (nat_cmp (number (column r 2)) (register_place g)) && (is_eq (nat_cmp (number (column r 3)) i) && true)))
  tests r it = rw (it.0, it.1.0, it.1.1.0) (rw (equal_ints (number (column r 1)) m, equal_ints (register_place (register_at (number (column r 2)))) (register_place g), equal_ints (number (column r 3)) i) refl)

  hits : (r : Row) → IsReadingRow r → passes r ≡ true → reading_key m g i ≡ key_in_point r
  hits r it hit =
      let h = sym (tests r it) ∙ hit in
      let h1 = second (is_eq (nat_cmp (number (column r 1)) m)) _ h in
      let h2 = second (is_eq (nat_cmp (number (column r 2)) (register_place g))) _ h1 in
      let em = tied (number (column r 1)) m (first _ _ h) in
      let eg = ap register_at (tied (number (column r 2)) (register_place g) (first _ _ h1)) ∙ register_back g in
      let ei = tied (number (column r 3)) i (first _ _ h2) in
      sym (λ j. key.Reading (record { 0 = em j }) (eg j) (ei j))

  misses : (r : Row) → IsReadingRow r → reading_key m g i ≡ key_in_point r → passes r ≡ true
  misses r it same =
      let em : number (column r 1) ≡ m = ap meter_of (sym same) in
      let eg : number (column r 2) ≡ register_place g = ap number it.1.0 ∙ ap register_place (ap register_of (sym same)) in
      let ei : number (column r 3) ≡ i = ap second_of (sym same) in
      tests r it ∙ rw (em, eg, ei) (rw (same_number m, same_number (register_place g), same_number i) refl)

  pub passes_at : (r : Row) → IsReadingRow r → passes r ≡ at_key m g i r
  passes_at r it = both_true (passes r) (at_key m g i r) (λ hit. (same_key-decides (reading_key m g i) (key_in_point r)).1 (hits r it hit)) (λ same. misses r it ((same_key-decides (reading_key m g i) (key_in_point r)).0 same))

abbrev table : Table
table = point_at 7

-- ---- DELETE
module _ (old new : State) (m : ℕ) (g : Register) (i : ℕ) (count : ℕ) (store : IsStore old.now) (inside : IsTrue old.in_transaction) (h : Executes delete_point_text (params m g i) old new (Ok count)) where
  abbrev own : List Term
  own = only_one

  deleted : HasDeleted table delete_point_query.filter (params m g i) old new
  deleted = deletes delete_point_text 4 (params m g i) old new store.ours count h table delete_point_query.filter delete_point_is (λ out does. does) (λ _. refl)

  left : new.now.trees 7 ≡ filter (λ row. not (at_key m g i row)) (old.now.trees 7)
  left = others_left table delete_point_query.filter (params m g i) IsReadingRow (at_key m g i) (passes_at m g i) key_in_point old new deleted store.points

  others : AreElseSame own 7 old.now.trees new.now.trees
  others = deleted.1.2.tables

  told_left : point_in (new.now.trees 7) ≡ points_with (point_in (old.now.trees 7)) m g i None
  told_left = λ j n s u. (ap (λ rows. point_in rows n s u) left ∙ gone_told same_key same_key-decides key_in_point (λ x. number (column x 4)) (reading_key m g i) (reading_key n s u) (old.now.trees 7)) j

  pub takes : Makes (λ c. with_point c m g i None) old new
  takes = record {
    store = store_kept old.now new.now deleted.0 (same_records own 7 old.now.trees new.now.trees (omega arith) (inl (omega arith)) others) store
        (subst (AreKeyed IsReadingRow key_in_point) (sym left) (keyed_gone same_key same_key-decides key_in_point (λ x. number (column x 4)) IsReadingRow (reading_key m g i) (old.now.trees 7) store.points))
        (subst (AreKeyed IsAssignmentRow key_in_start) (sym (others.1.1.1.1.1.0 (λ e. absurd (omega (arith, e))))) store.starts)
        (subst (AreKeyed IsEnergyRow energy_in) (sym (others.1.1.1.1.1.1.1.1.1.1.1.0 (λ e. absurd (omega (arith, e))))) store.energies)
        (subst (AreKeyed IsPaymentRow payment_in) (sym (others.1.1.1.1.1.1.1.0 (λ e. absurd (omega (arith, e))))) store.payments)
        (others.1.1.1.1.1.1.0 (λ e. absurd (omega (arith, e))));
    keeps = keeps_sums own _ old.now.trees new.now.trees _ deleted.1.2 (omega arith) (omega arith) (others.1.1.1.1.1.1.1.1.1.1.1.0 (λ e. absurd (omega (arith, e)))) (others.1.1.1.1.1.1.1.0 (λ e. absurd (omega (arith, e))));
    content = content_with_point old.now.trees new.now.trees m g i (None) (same_records own 7 old.now.trees new.now.trees (omega arith) (inl (omega arith)) others) (others.1.1.1.1.1.0 (λ e. absurd (omega (arith, e)))) (others.1.1.1.1.1.1.1.1.1.1.1.0 (λ e. absurd (omega (arith, e)))) (others.1.1.1.1.1.1.1.0 (λ e. absurd (omega (arith, e)))) told_left;
    shows = edit_inside false delete_point_text 4 delete_point_query delete_point_is old new store.ours (params m g i) count h inside;
  }

-- ---- INSERT
abbrev given : WaitingPoint → Row
given p = reading_row p.meter.0 (register_place p.register) p.instant p.wh

abbrev pub given_all : List WaitingPoint → List Row
given_all = map (λ p. Null ∷ given p)

-- the row of a point in the table that has these rows
abbrev row_of : List Row → WaitingPoint → Row
row_of rows p = Int (next_rowid rows) ∷ given p

abbrev key_of : WaitingPoint → Key
key_of p = reading_key p.meter.0 p.register p.instant

abbrev at_point : WaitingPoint → Row → Bool
at_point p = at_key p.meter.0 p.register p.instant

abbrev clash : List Row → Row → Bool
clash rows r = clashes plain (1 ∷ 2 ∷ 3 ∷ []) rows r

-- the rows that are put, one behind another
abbrev news : List Row → List WaitingPoint → List Row
news rows points = numbered Chosen rows (given_all points)

cast_all : (points : List WaitingPoint) → map (λ s. cast_row table (drop 0 s)) (given_all points) ≡ given_all points
cast_all [] = refl
cast_all (p ∷ points) =
    let one : cast_row table (drop 0 (Null ∷ given p)) ≡ Null ∷ given p = rw (cast_null, cast_int p.meter.0, cast_int (register_place p.register), cast_int p.instant, cast_int p.wh) refl in
    λ i. one i ∷ cast_all points i

module _ (rows : List Row) (p : WaitingPoint) (keyed : AreKeyed IsReadingRow key_in_point rows) (free : is_taken rows (row_of rows p) ≡ false) (alone : clash (put_row (row_of rows p) rows) (row_of rows p) ≡ false) where
  abbrev row : Row
  row = row_of rows p

  key_is : key_in_point row ≡ key_of p
  key_is = ap (λ (s : Register). reading_key p.meter.0 s p.instant) (register_back p.register)

  agrees_at : (r : Row) → IsReadingRow r → agree plain (1 ∷ 2 ∷ 3 ∷ []) r (1 ∷ 2 ∷ 3 ∷ []) row ≡ at_point p r
  unfolding first_key
  agrees_at r it = passes_at p.meter.0 p.register p.instant r it

  unseen : find (at_point p) rows ≡ None
  unseen =
      let same = all_weaker IsReadingRow (λ r. agree plain (1 ∷ 2 ∷ 3 ∷ []) r (1 ∷ 2 ∷ 3 ∷ []) row ≡ at_point p r) agrees_at rows keyed.each in
      key_free plain (1 ∷ 2 ∷ 3 ∷ []) (next_rowid rows) (given p) (at_point p) rows same keyed.ids free alone

  told_put : point_in (put_row row rows) ≡ with_one (point_in rows) p
  told_put = λ j n s u. put_told same_key same_key-decides key_in_point (λ x. number (column x 4)) (key_of p) (reading_key n s u) row rows key_is free unseen j

  still_keyed : AreKeyed IsReadingRow key_in_point (put_row row rows)
  still_keyed = keyed_put same_key same_key-decides key_in_point (λ x. number (column x 4)) IsReadingRow (key_of p) row rows key_is (refl, (ap (λ (s : Register). Int (pos (register_place s))) (sym (register_back p.register)), (refl, refl))) refl free unseen keyed

-- what they tell, and that they are keyed still, where none of the rows at the end has the key of another
abbrev IsPut : List WaitingPoint → List Row → List Row → Type 0
IsPut points rows all = (point_in all ≡ points_over points (point_in rows)) × AreKeyed IsReadingRow key_in_point all

all_put : (points : List WaitingPoint) (rows : List Row) → AreKeyed IsReadingRow key_in_point rows → are_fresh rows (news rows points) ≡ true
    → AllByRecursion (λ r. clash (put_all rows (news rows points)) r ≡ false) (put_all rows (news rows points)) → IsPut points rows (put_all rows (news rows points))
all_put [] rows keyed fresh apart = (refl, keyed)
all_put (p ∷ points) rows keyed fresh apart =
    let row = row_of rows p in
    let free = was_not _ (first _ _ fresh) in
    let fresh_rest = second _ _ fresh in
    let last = put_all rows (news rows (p ∷ points)) in
    let alone = none_earlier (λ r. agree plain (1 ∷ 2 ∷ 3 ∷ []) r (1 ∷ 2 ∷ 3 ∷ []) row && differ (rowid r) (rowid row)) (news (put_row row rows) points) (put_row row rows) fresh_rest
    (of_new (λ r. clash last r ≡ false) row rows (all_earlier (λ r. clash last r ≡ false) (news (put_row row rows) points) (put_row row rows) fresh_rest apart)) in
    let rest = all_put points (put_row row rows) (still_keyed rows p keyed free alone) fresh_rest apart in
    (rest.0 ∙ ap (points_over points) (told_put rows p keyed free alone), rest.1)

module _ (old new : State) (points : List WaitingPoint) (store : IsStore old.now) (inserted : HasInsertedAll table (given_all points) old new) (shows : Shows old new new.now old.committed true) where
  abbrev before : List Row
  before = old.now.trees 7

  abbrev after : List Row
  after = put_all before (news before points)

  put : new.now.trees 7 ≡ after
  put = inserted.1.rows ∙ ap (λ rows. put_all before (numbered Chosen before rows)) (cast_all points)

  fresh : are_fresh before (news before points) ≡ true
  fresh = subst (λ rows. are_fresh before (numbered Chosen before rows) ≡ true) (cast_all points) inserted.1.fresh

  -- the rule of the index holds of the rows as they are now
  apart : AllByRecursion (λ r. clash after r ≡ false) after
  apart = subst (λ rows. AllByRecursion (λ r. clash rows r ≡ false) rows) put
      (all_weaker (λ r. rule.passes Unique (ours_with only_one) new.now.trees table r ≡ true) (λ r. clash (new.now.trees 7) r ≡ false)
      (λ r passed. (let unmet : (not (clash (new.now.trees 7) r) && true) ≡ true = passed in was_not _ (first _ _ unmet)))
      (new.now.trees 7) (inserted.1.fits.rules Unique (λ e. absurd cc)).1.1.1.1.0)

  is_put : IsPut points before after
  is_put = all_put points before store.points fresh apart

  elsewhere : AreElseSame only_one 7 old.now.trees new.now.trees
  elsewhere = inserted.1.tables

  told_all : point_in (new.now.trees 7) ≡ points_over points (point_in before)
  told_all = ap point_in put ∙ is_put.0

  pub puts_all : Makes (with_waiting points) old new
  puts_all = record {
    store = store_kept old.now new.now inserted.0 (same_records only_one 7 old.now.trees new.now.trees (omega arith) (inl (omega arith)) elsewhere) store
        (subst (AreKeyed IsReadingRow key_in_point) (sym put) is_put.1)
        (subst (AreKeyed IsAssignmentRow key_in_start) (sym (elsewhere.1.1.1.1.1.0 (λ e. absurd (omega (arith, e))))) store.starts)
        (subst (AreKeyed IsEnergyRow energy_in) (sym (elsewhere.1.1.1.1.1.1.1.1.1.1.1.0 (λ e. absurd (omega (arith, e))))) store.energies)
        (subst (AreKeyed IsPaymentRow payment_in) (sym (elsewhere.1.1.1.1.1.1.1.0 (λ e. absurd (omega (arith, e))))) store.payments)
        (elsewhere.1.1.1.1.1.1.0 (λ e. absurd (omega (arith, e))));
    keeps = keeps_sums only_one _ old.now.trees new.now.trees _ inserted.1 (omega arith) (omega arith) (elsewhere.1.1.1.1.1.1.1.1.1.1.1.0 (λ e. absurd (omega (arith, e)))) (elsewhere.1.1.1.1.1.1.1.0 (λ e. absurd (omega (arith, e))));
    content = content_with_points old.now.trees new.now.trees points (same_records only_one 7 old.now.trees new.now.trees (omega arith) (inl (omega arith)) elsewhere) (elsewhere.1.1.1.1.1.0 (λ e. absurd (omega (arith, e)))) (elsewhere.1.1.1.1.1.1.1.1.1.1.1.0 (λ e. absurd (omega (arith, e)))) (elsewhere.1.1.1.1.1.1.1.0 (λ e. absurd (omega (arith, e)))) told_all;
    shows = shows;
  }

-- by one statement, of a point and of as many as are put at once
pub puts : (old new : State) (p : WaitingPoint) (count : ℕ) → IsStore old.now → IsTrue old.in_transaction → Executes insert_point_text (given p) old new (Ok count) → Makes (with_waiting (p ∷ [])) old new
puts old new p count store inside h =
    puts_all old new (p ∷ []) store (inserts_all insert_point_text 4 (given p) old new store.ours count h table 5 four_terms (given_all (p ∷ [])) insert_point_is (λ out does. does) (λ _. refl) refl)
    (insert_inside insert_point_text 4 5 four_terms insert_point_is old new store.ours (given p) count h inside)

abbrev pub four_given : WaitingPoint → WaitingPoint → WaitingPoint → WaitingPoint → Row
four_given p q r s = given p ++ (given q ++ (given r ++ given s))

pub puts_four : (old new : State) (p q r s : WaitingPoint) (count : ℕ) → IsStore old.now → IsTrue old.in_transaction → Executes insert_points_text (four_given p q r s) old new (Ok count) → Makes (with_waiting (p ∷ q ∷ r ∷ s ∷ [])) old new
puts_four old new p q r s count store inside h =
    puts_all old new (p ∷ q ∷ r ∷ s ∷ []) store (inserts_all insert_points_text 4 (four_given p q r s) old new store.ours count h table 5 points_terms (given_all (p ∷ q ∷ r ∷ s ∷ [])) insert_points_is (λ out does. does) (λ _. refl) refl)
    (insert_inside insert_points_text 4 5 points_terms insert_points_is old new store.ours (four_given p q r s) count h inside)

-- ---- whether it answered Ok or not
pub takes_if : (old new : State) (m : ℕ) (g : Register) (i : ℕ) (r : Result ℕ Error) → IsStore old.now → IsTrue old.in_transaction → Executes delete_point_text (params m g i) old new r → OnOk r (Makes (λ c. with_point c m g i None) old new)
takes_if old new m g i (Ok n) store inside h = takes old new m g i n store inside h
takes_if old new m g i (Err e) store inside h = tt
