-- What DELETE, UPDATE and INSERT make of the totals of top-ups.
use Rattle.std.proofs.Common.{◌≡◌, ◌<◌, ℕ, pos, List, [], ◌∷◌, find, Bool, true, false, cond, not, ◌&&◌, Option, option_map, unwrap_or, Some, None, Ok, Err, Result, OnOk, IfOk, IsTrue, refl, sym, ap, subst, ◌∙◌, inl, inr, nat_cmp, arith}
use Rattle.std.specs.List.{AllByRecursion, list_all, filter}
use Rattle.std.specs.Ordering.{is_eq}
use Rattle.sqlite.specs.declared.types.Value.{Value}
use Rattle.sqlite.specs.declared.types.Value.TheVariants.{Null, Int}
use Rattle.sqlite.specs.declared.error.Error.{Error}
use Rattle.sqlite.specs.Order.{Row, column}
use Rattle.sqlite.specs.Term.{holds}
use Rattle.sqlite.specs.Table.{Table}
use Rattle.sqlite.specs.Tree.{Trees, put_row}
use Rattle.sqlite.specs.Cast.{cast_row}
use Rattle.sqlite.specs.Edit.{Applies, Edit, is_taken}
use Rattle.sqlite.specs.State.{State, Shows, Executes, mode_of}
use Rattle.sqlite_trees.proofs.ListLemmas.{all-filter}
use Rattle.pw_tariff.specs.declared.ids.AccountId.{AccountId}
use Rattle.pw_model.specs.declared.records.TotalKey.{TotalKey}
use Rattle.pw_model.specs.declared.records.TotalKey.TheVariants as total
use Rattle.pw_shelf.specs.Changes.{same_total, with_total}
use Rattle.pw_schema.specs.Tables.{IsOurs, only_one, ours_with, total_topup_at}
use Rattle.pw_schema.specs.Rows.{number}
use Rattle.pw_schema.proofs.Steps.{uncounted}
use Rattle.pw_store.specs.declared.changes.Change.TheVariants.{SetTotal}
use Rattle.pw_store.specs.Content.{energy_in, payment_in, payment_told}
use Rattle.pw_store.specs.Keyed.{AreKeyed, IsEnergyRow, IsPaymentRow}
use Rattle.pw_store.specs.Kept.{IsStore}
use Rattle.pw_store.specs.inner.Changing.{Makes, StillKeeps, changed}
use Rattle.pw_store.proofs.Again.{once_more}
use Rattle.pw_store.proofs.KeptTexts.{delete_payment_text, delete_payment_query, delete_payment_is, insert_payment_text, insert_payment_is, payment_terms, set_payment_text, set_payment_query, set_payment_terms, set_payment_is}
use Rattle.pw_store.proofs.Scans.{equal_ints, tied}
use Rattle.pw_store.proofs.Finding.{first, same_number}
use Rattle.pw_store.proofs.Adding.{cast_null, cast_int, insert_inside, was_not}
use Rattle.pw_store.specs.Left.{IsOldEnergy, IsOldPayment}
use Rattle.pw_store.proofs.StillKept.{fewer, keeps_rows, more}
use Rattle.pw_store.proofs.Others.{AreElseSame, same_total-decides, payments_with, makes_nothing, makes_total}
use Rattle.pw_store.proofs.KeptRows.{find_gone, gone_told, put_told, keyed_gone, keyed_put}
use Rattle.pw_store.proofs.OneTable.{HasDeleted, HasInserted, HasSet, IsSet, deletes, inserts, sets, others_left, set_or_not}
use Rattle.pw_store.proofs.Taking.{edit_inside, both_true, none_found}

abbrev account_of_total : TotalKey → ℕ
account_of_total (total.Energy o p b d) = 0
account_of_total (total.TopUps a) = a.0

-- ---- the rows with a key
abbrev pub at_key : AccountId → Row → Bool
at_key a r = same_total (total.TopUps a) (payment_in r)

abbrev pub params : AccountId → Row
params a = Int (pos a.0) ∷ []

abbrev amount_in : Row → ℕ
amount_in r = number (column r 2)

module _ (a : AccountId) where
  abbrev pub passes : Row → Bool
  passes r = list_all (holds (params a ∷ r ∷ [])) delete_payment_query.filter

  -- the account of a row with the key
  key_column : (r : Row) → total.TopUps a ≡ payment_in r → number (column r 0) ≡ a.0
  key_column r same = ap account_of_total (sym same)

  -- a statement is given the key, and then something more
  module _ (given : Row) where
    abbrev pass : Row → Bool
    pass r = list_all (holds ((Int (pos a.0) ∷ given) ∷ r ∷ [])) delete_payment_query.filter

    tests : (r : Row) → IsPaymentRow r → pass r ≡ (is_eq (nat_cmp (number (column r 0)) a.0) && true)
    tests r it = rw it.0 (rw (equal_ints (number (column r 0)) a.0) refl)

    hits : (r : Row) → IsPaymentRow r → pass r ≡ true → total.TopUps a ≡ payment_in r
    hits r it hit =
        let h = sym (tests r it) ∙ hit in
        let ea = tied (number (column r 0)) a.0 (first _ _ h) in
        sym (λ j. total.TopUps (record { 0 = ea j }))

    misses : (r : Row) → IsPaymentRow r → total.TopUps a ≡ payment_in r → pass r ≡ true
    misses r it same =
        let ea : number (column r 0) ≡ a.0 = key_column r same in
        tests r it ∙ rw ea (rw (same_number a.0) refl)

    passes_with : (r : Row) → IsPaymentRow r → pass r ≡ at_key a r
    passes_with r it = both_true (pass r) (at_key a r) (λ hit. (same_total-decides (total.TopUps a) (payment_in r)).1 (hits r it hit)) (λ same. misses r it ((same_total-decides (total.TopUps a) (payment_in r)).0 same))

  pub passes_at : (r : Row) → IsPaymentRow r → passes r ≡ at_key a r
  passes_at = passes_with []

abbrev table : Table
table = total_topup_at 13

-- ---- a statement that changes this table alone
module _ (old new : State) (store : IsStore old.now) (ours : IsOurs new.now.schema) (shows : Shows old new new.now old.committed true) (edit : Edit) (it : Applies (ours_with only_one) (mode_of old).keys old.now.trees edit new.now.trees)
    (at : edit.table.tree ≡ 13) (others : AreElseSame only_one 13 old.now.trees new.now.trees) where
  energies : new.now.trees 20 ≡ old.now.trees 20
  energies = others.1.1.1.1.1.1.1.1.1.1.1.0 (λ e. absurd (omega (arith, e)))

  keeping : ((before : Trees) → AllByRecursion (IsOldPayment before) (old.now.trees 13) → AllByRecursion (IsOldPayment before) (new.now.trees 13)) → StillKeeps old.now.trees new.now.trees
  keeping kept = keeps_rows only_one _ old.now.trees new.now.trees edit it (omega (arith, at)) (omega (arith, at)) (λ before all. subst (AllByRecursion (IsOldEnergy before)) (sym energies) all) kept

  makes : (a : AccountId) (v : Option ℕ) → AreKeyed IsPaymentRow payment_in (new.now.trees 13) → ((l : TotalKey) → payment_told (new.now.trees 13) l ≡ cond (same_total (total.TopUps a) l) v (payment_told (old.now.trees 13) l))
      → ((before : Trees) → AllByRecursion (IsOldPayment before) (old.now.trees 13) → AllByRecursion (IsOldPayment before) (new.now.trees 13)) → Makes (λ c. with_total c (total.TopUps a) (unwrap_or v 0)) old new
  makes a v keyed told kept = makes_total old new 13 (omega arith) (inl (omega arith)) others store ours (keeping kept) shows (total.TopUps a) (unwrap_or v 0)
      (subst (AreKeyed IsEnergyRow energy_in) (sym energies) store.energies) keyed (payments_with old.now.trees new.now.trees a v energies told)

  nothing_made : new.now.trees 13 ≡ old.now.trees 13 → Makes (λ c. c) old new
  nothing_made same = makes_nothing old new 13 (omega arith) (inl (omega arith)) others store ours (keeping (λ before all. subst (AllByRecursion (IsOldPayment before)) (sym same) all)) shows energies same

-- ---- rows of which none has the key, and a row with it
module _ (a : AccountId) (v : ℕ) where
  abbrev row : Row
  row = Int (pos a.0) ∷ Null ∷ Int (pos v) ∷ []

  key_is : payment_in row ≡ total.TopUps a
  key_is = refl

  module _ (rows : List Row) (unseen : find (at_key a) rows ≡ None) (free : is_taken rows row ≡ false) where
    keyed_with : AreKeyed IsPaymentRow payment_in rows → AreKeyed IsPaymentRow payment_in (put_row row rows)
    keyed_with keyed = keyed_put same_total same_total-decides payment_in amount_in IsPaymentRow (total.TopUps a) row rows key_is (refl, refl) refl free unseen keyed

    told_with : (l : TotalKey) → payment_told (put_row row rows) l ≡ cond (same_total (total.TopUps a) l) (Some v) (payment_told rows l)
    told_with l = put_told same_total same_total-decides payment_in amount_in (total.TopUps a) l row rows key_is free unseen

  -- what UPDATE makes of a row with the key
  made_is : (r : Row) → IsPaymentRow r → total.TopUps a ≡ payment_in r → cast_row (uncounted table) (column r 0 ∷ Null ∷ Int (pos v) ∷ []) ≡ row
  made_is r it same = made _ (it.0 ∙ ap (λ n. Int (pos n)) (key_column a r same))
    where
      made : (x : Value) → x ≡ Int (pos a.0) → cast_row (uncounted table) (x ∷ Null ∷ Int (pos v) ∷ []) ≡ row
      made x e = rw e (rw (cast_null, cast_int a.0, cast_int v) refl)

-- ---- DELETE
module _ (old new : State) (a : AccountId) (count : ℕ) (store : IsStore old.now) (inside : IsTrue old.in_transaction) (h : Executes delete_payment_text (params a) old new (Ok count)) where
  deleted : HasDeleted table delete_payment_query.filter (params a) old new
  deleted = deletes delete_payment_text 7 (params a) old new store.ours count h table delete_payment_query.filter delete_payment_is (λ out does. does) (λ _. refl)

  left : new.now.trees 13 ≡ filter (λ row. not (at_key a row)) (old.now.trees 13)
  left = others_left table delete_payment_query.filter (params a) IsPaymentRow (at_key a) (passes_at a) payment_in old new deleted store.payments

  takes : Makes (λ c. with_total c (total.TopUps a) 0) old new
  takes = makes old new store deleted.0 (edit_inside false delete_payment_text 7 delete_payment_query delete_payment_is old new store.ours (params a) count h inside) _ deleted.1.2 refl deleted.1.2.tables a None
      (subst (AreKeyed IsPaymentRow payment_in) (sym left) (keyed_gone same_total same_total-decides payment_in amount_in IsPaymentRow (total.TopUps a) (old.now.trees 13) store.payments))
      (λ l. ap (λ rows. payment_told rows l) left ∙ gone_told same_total same_total-decides payment_in amount_in (total.TopUps a) l (old.now.trees 13))
      (λ before all. fewer (IsOldPayment before) (λ row. not (at_key a row)) (old.now.trees 13) (new.now.trees 13) left all)

-- what UPDATE and INSERT are given
abbrev payment_row : AccountId → ℕ → Row
payment_row a v = Int (pos a.0) ∷ Int (pos v) ∷ []

-- ---- UPDATE
module _ (old new : State) (a : AccountId) (v : ℕ) (count : ℕ) (above : 0 < v) (store : IsStore old.now) (inside : IsTrue old.in_transaction) (h : Executes set_payment_text (payment_row a v) old new (Ok count)) where
  set : HasSet table delete_payment_query.filter set_payment_terms (payment_row a v) count old new
  set = sets set_payment_text 7 (payment_row a v) old new store.ours count h table delete_payment_query.filter set_payment_terms set_payment_is (λ out does. does) (λ _ _. refl)

  outcome : IsSet table delete_payment_query.filter set_payment_terms (payment_row a v) IsPaymentRow (at_key a) (passes_with a (Int (pos v) ∷ [])) (old.now.trees 13) (new.now.trees 13) count
  outcome = set_or_not table delete_payment_query.filter set_payment_terms (payment_row a v) IsPaymentRow (at_key a) (passes_with a (Int (pos v) ∷ [])) payment_in (total.TopUps a)
      (λ r at. sym ((same_total-decides (total.TopUps a) (payment_in r)).0 at)) old new count set store.payments

  shown : Shows old new new.now old.committed true
  shown = edit_inside true set_payment_text 7 set_payment_query set_payment_is old new store.ours (payment_row a v) count h inside

  abbrev gone : List Row
  gone = filter (λ row. not (at_key a row)) (old.now.trees 13)

  -- where a row had the key
  one_made : is_taken gone (row a v) ≡ false → new.now.trees 13 ≡ put_row (row a v) gone → Makes (λ c. with_total c (total.TopUps a) v) old new
  one_made free put =
      let unseen = find_gone (at_key a) (old.now.trees 13) in
      let keyed = keyed_gone same_total same_total-decides payment_in amount_in IsPaymentRow (total.TopUps a) (old.now.trees 13) store.payments in
      makes old new store set.0 shown _ set.1.2 refl set.1.2.tables a (Some v)
      (subst (AreKeyed IsPaymentRow payment_in) (sym put) (keyed_with a v gone unseen free keyed))
      (λ l. ap (λ rows. payment_told rows l) put ∙ told_with a v gone unseen free l
      ∙ ap (cond (same_total (total.TopUps a) l) (Some v)) (gone_told same_total same_total-decides payment_in amount_in (total.TopUps a) l (old.now.trees 13))
      ∙ once_more (same_total (total.TopUps a) l) (Some v) None (payment_told (old.now.trees 13) l))
      (λ before all. more (IsOldPayment before) (row a v) gone (new.now.trees 13) put (λ none. absurd (omega (arith, above, none))) (all-filter (IsOldPayment before) (λ row. not (at_key a row)) (old.now.trees 13) all))

  set_made : Makes (changed (SetTotal (total.TopUps a) v) count) old new
  set_made = elim outcome [
    | inl none ↦ subst (λ n. Makes (changed (SetTotal (total.TopUps a) v) n) old new) (sym none.0) (nothing_made old new store set.0 shown _ set.1.2 refl set.1.2.tables none.2)
    | inr one ↦ (let same = made_is a v one.0 one.2 ((same_total-decides (total.TopUps a) (payment_in one.0)).0 one.4) in
        subst (λ n. Makes (changed (SetTotal (total.TopUps a) v) n) old new) (sym one.1)
        (one_made (subst (λ r. is_taken gone r ≡ false) same one.5) (subst (λ r. new.now.trees 13 ≡ put_row r gone) same one.6)))
  ]

  set_taken : count ≡ 0 → payment_told (new.now.trees 13) (total.TopUps a) ≡ None
  set_taken few = elim outcome [
    | inl none ↦ ap (option_map amount_in) (ap (find (at_key a)) none.2 ∙ none.1)
    | inr one ↦ absurd (let bad = one.1 in omega (arith, bad, few))
  ]

-- ---- INSERT
module _ (old new : State) (a : AccountId) (v : ℕ) (count : ℕ) (above : 0 < v) (store : IsStore old.now) (inside : IsTrue old.in_transaction) (none : payment_told (old.now.trees 13) (total.TopUps a) ≡ None) (h : Executes insert_payment_text (payment_row a v) old new (Ok count)) where
  inserted : HasInserted table (row a v) old new
  inserted = inserts insert_payment_text 7 (payment_row a v) old new store.ours count h table 3 payment_terms (row a v) insert_payment_is (λ out does. does) (λ _. refl) refl

  free : is_taken (old.now.trees 13) (row a v) ≡ false
  free = let fresh = rw (cast_int a.0) at inserted.1.fresh in was_not _ (first _ _ fresh)

  put : new.now.trees 13 ≡ put_row (row a v) (old.now.trees 13)
  put = inserted.1.rows ∙ rw (cast_null, cast_int a.0, cast_int v) refl

  unseen : find (at_key a) (old.now.trees 13) ≡ None
  unseen = none_found amount_in (find (at_key a) (old.now.trees 13)) none

  puts : Makes (λ c. with_total c (total.TopUps a) v) old new
  puts = makes old new store inserted.0 (insert_inside insert_payment_text 7 3 payment_terms insert_payment_is old new store.ours (payment_row a v) count h inside) _ inserted.1 refl inserted.1.tables a (Some v)
      (subst (AreKeyed IsPaymentRow payment_in) (sym put) (keyed_with a v (old.now.trees 13) unseen free store.payments))
      (λ l. ap (λ rows. payment_told rows l) put ∙ told_with a v (old.now.trees 13) unseen free l)
      (λ before all. more (IsOldPayment before) (row a v) (old.now.trees 13) (new.now.trees 13) put (λ none. absurd (omega (arith, above, none))) all)

-- ---- whether it answered Ok or not
module _ (old new : State) (a : AccountId) where
  pub takes_if : (r : Result ℕ Error) → IsStore old.now → IsTrue old.in_transaction → Executes delete_payment_text (params a) old new r → OnOk r (Makes (λ c. with_total c (total.TopUps a) 0) old new)
  takes_if (Ok n) store inside h = takes old new a n store inside h
  takes_if (Err e) store inside h = tt

  module _ (v : ℕ) (above : 0 < v) where
    pub sets_if : (r : Result ℕ Error) → IsStore old.now → IsTrue old.in_transaction → Executes set_payment_text (payment_row a v) old new r → IfOk r (λ n. Makes (changed (SetTotal (total.TopUps a) v) n) old new)
    sets_if (Ok n) store inside h = set_made old new a v n above store inside h
    sets_if (Err e) store inside h = tt

    pub none_set_if : (r : Result ℕ Error) → IsStore old.now → IsTrue old.in_transaction → Executes set_payment_text (payment_row a v) old new r → IfOk r (λ n. n ≡ 0 → payment_told (new.now.trees 13) (total.TopUps a) ≡ None)
    none_set_if (Ok n) store inside h = set_taken old new a v n above store inside h
    none_set_if (Err e) store inside h = tt

    pub puts_if : (r : Result ℕ Error) → IsStore old.now → IsTrue old.in_transaction → payment_told (old.now.trees 13) (total.TopUps a) ≡ None → Executes insert_payment_text (payment_row a v) old new r → OnOk r (Makes (λ c. with_total c (total.TopUps a) v) old new)
    puts_if (Ok n) store inside none h = puts old new a v n above store inside none h
    puts_if (Err e) store inside none h = tt
