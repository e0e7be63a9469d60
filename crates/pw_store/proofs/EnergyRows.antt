-- What DELETE, UPDATE and INSERT make of the totals of energy.
use Rattle.std.proofs.Common.{◌≡◌, ◌<◌, ℕ, ℤ, pos, List, [], ◌∷◌, find, map, Bool, true, false, cond, not, ◌&&◌, Option, option_map, unwrap_or, Some, None, Ok, Err, Result, OnOk, IfOk, IsTrue, refl, sym, ap, subst, ◌∙◌, inl, inr, nat_cmp, arith}
use Rattle.std.specs.List.{AllByRecursion, list_all, filter}
use Rattle.std.specs.Ordering.{is_eq}
use Rattle.sqlite.specs.declared.types.Value.{Value}
use Rattle.sqlite.specs.declared.types.Value.TheVariants.{Null, Int}
use Rattle.sqlite.specs.declared.error.Error.{Error}
use Rattle.sqlite.specs.Order.{Row, column}
use Rattle.sqlite.specs.Term.{holds}
use Rattle.sqlite.specs.Table.{Table}
use Rattle.sqlite.specs.Tree.{Trees, put_row, rowid}
use Rattle.sqlite.specs.Cast.{cast_row}
use Rattle.sqlite.specs.Edit.{Applies, Edit, id_in, is_taken, next_rowid}
use Rattle.sqlite.specs.State.{State, Shows, Executes, mode_of}
use Rattle.sqlite_trees.proofs.ListLemmas.{all-filter}
use Rattle.pw_tariff.specs.declared.ids.AccountId.{AccountId}
use Rattle.pw_tariff.specs.declared.ids.BandId.{BandId}
use Rattle.pw_tariff.specs.declared.ids.Direction.{Direction}
use Rattle.pw_tariff.specs.declared.ids.Direction.TheVariants.{Import, Export}
use Rattle.pw_tariff.specs.declared.ids.PeriodId.{PeriodId}
use Rattle.pw_tariff.specs.Cells.{owner_place}
use Rattle.pw_model.specs.declared.records.TotalKey.{TotalKey}
use Rattle.pw_model.specs.declared.records.TotalKey.TheVariants as total
use Rattle.pw_model.specs.Counting.{IsInserted}
use Rattle.pw_model.specs.Same.{direction_place}
use Rattle.pw_shelf.specs.Changes.{same_total, with_total}
use Rattle.pw_schema.specs.Tables.{IsOurs, only_one, ours_with, period_total_at}
use Rattle.pw_schema.specs.Rows.{number, direction_at}
use Rattle.pw_schema.proofs.Steps.{uncounted}
use Rattle.pw_schema.specs.declared.kind.TotalKind.TheVariants.{Energies}
use Rattle.pw_store.specs.declared.changes.Change.TheVariants.{SetTotal}
use Rattle.pw_store.specs.Content.{energy_in, payment_in, energy_told}
use Rattle.pw_store.specs.Keyed.{AreKeyed, IsEnergyRow, IsPaymentRow}
use Rattle.pw_store.specs.Kept.{IsStore}
use Rattle.pw_store.specs.inner.Changing.{Makes, PutsEnergy, StillKeeps, changed, energy_row}
use Rattle.pw_store.specs.inner.Filling.{energies_in}
use Rattle.pw_store.specs.inner.Sums.{total_in_row}
use Rattle.pw_store.proofs.Again.{once_more}
use Rattle.pw_store.proofs.KeptTexts.{delete_total_text, delete_total_query, delete_total_is, five_terms, insert_total_text, insert_total_is, set_total_text, set_total_query, set_total_terms, set_total_is}
use Rattle.pw_store.proofs.Placing.{put_inserts}
use Rattle.pw_store.proofs.Scans.{equal_ints, tied}
use Rattle.pw_store.proofs.Finding.{first, second, same_number, owner_one, place_one}
use Rattle.pw_store.proofs.Adding.{cast_null, cast_int, cast_rowid, owner_back, insert_inside, was_not}
use Rattle.pw_store.specs.Left.{IsOldEnergy, IsOldPayment}
use Rattle.pw_store.proofs.StillKept.{fewer, keeps_rows, more}
use Rattle.pw_store.proofs.Others.{AreElseSame, same_total-decides, energies_with, makes_nothing, makes_total}
use Rattle.pw_store.proofs.KeptRows.{find_gone, gone_told, put_told, keyed_gone, keyed_put}
use Rattle.pw_store.proofs.OneTable.{HasDeleted, HasInserted, HasSet, IsSet, deletes, inserts, sets, others_left, set_or_not}
use Rattle.pw_store.proofs.Taking.{edit_inside, both_true, none_found}

-- ---- parts of a key
abbrev owner_of_total : TotalKey → Option AccountId
owner_of_total (total.Energy o p b d) = o
owner_of_total (total.TopUps a) = None

abbrev period_of_total : TotalKey → ℕ
period_of_total (total.Energy o p b d) = p.0
period_of_total (total.TopUps a) = 0

abbrev band_of_total : TotalKey → ℕ
band_of_total (total.Energy o p b d) = b.0
band_of_total (total.TopUps a) = 0

abbrev direction_of_total : TotalKey → Direction
direction_of_total (total.Energy o p b d) = d
direction_of_total (total.TopUps a) = Import

direction_back : (d : Direction) → direction_at (direction_place d) ≡ d
direction_back Import = refl
direction_back Export = refl

-- ---- the rows with a key
abbrev pub at_key : Option AccountId → PeriodId → BandId → Direction → Row → Bool
at_key o p b d r = same_total (total.Energy o p b d) (energy_in r)

-- what a statement is given: the key, and then something more
abbrev params_with : Option AccountId → PeriodId → BandId → Direction → Row → Row
params_with o p b d more = Int (pos (owner_place o)) ∷ Int (pos p.0) ∷ Int (pos b.0) ∷ Int (pos (direction_place d)) ∷ more

abbrev pub params : Option AccountId → PeriodId → BandId → Direction → Row
params o p b d = params_with o p b d []

abbrev amount_in : Row → ℕ
amount_in r = number (column r 5)

module _ (o : Option AccountId) (p : PeriodId) (b : BandId) (d : Direction) where
  abbrev pub passes : Row → Bool
  passes r = list_all (holds (params o p b d ∷ r ∷ [])) delete_total_query.filter

  module _ (given : Row) where
    abbrev pass : Row → Bool
    pass r = list_all (holds (params_with o p b d given ∷ r ∷ [])) delete_total_query.filter

    tests : (r : Row) → IsEnergyRow r → pass r ≡ (is_eq (nat_cmp (number (column r 1)) (owner_place o)) && (is_eq (nat_cmp (number (column r 2)) p.0) && (is_eq (nat_cmp (number (column r 3)) b.0) && (is_eq (nat_cmp (number (column r 4)) (direction_place d)) && true))))
    tests r it = rw (it.0, it.1.0, it.1.1.0, it.1.1.1.0) (rw (equal_ints (number (column r 1)) (owner_place o), equal_ints (number (column r 2)) p.0, equal_ints (number (column r 3)) b.0, equal_ints (direction_place (direction_at (number (column r 4)))) (direction_place d)) refl)

    hits : (r : Row) → IsEnergyRow r → pass r ≡ true → total.Energy o p b d ≡ energy_in r
    hits r it hit =
        let h = sym (tests r it) ∙ hit in
        let h1 = second (is_eq (nat_cmp (number (column r 1)) (owner_place o))) _ h in
        let h2 = second (is_eq (nat_cmp (number (column r 2)) p.0)) _ h1 in
        let h3 = second (is_eq (nat_cmp (number (column r 3)) b.0)) _ h2 in
        let eo = owner_one (number (column r 1)) o (tied (number (column r 1)) (owner_place o) (first _ _ h)) in
        let ep = tied (number (column r 2)) p.0 (first _ _ h1) in
        let eb = tied (number (column r 3)) b.0 (first _ _ h2) in
        let ed = ap direction_at (tied (number (column r 4)) (direction_place d) (first _ _ h3)) ∙ direction_back d in
        sym (λ j. total.Energy (eo j) (record { 0 = ep j }) (record { 0 = eb j }) (ed j))

  -- the columns of a row with the key
  key_columns : (r : Row) → total.Energy o p b d ≡ energy_in r → (number (column r 1) ≡ owner_place o) × ((number (column r 2) ≡ p.0) × ((number (column r 3) ≡ b.0) × (direction_at (number (column r 4)) ≡ d)))
  key_columns r same = (place_one (number (column r 1)) o (ap owner_of_total (sym same)), (ap period_of_total (sym same), (ap band_of_total (sym same), ap direction_of_total (sym same))))

  module _ (given : Row) where
    misses : (r : Row) → IsEnergyRow r → total.Energy o p b d ≡ energy_in r → pass given r ≡ true
    misses r it same =
        let e = key_columns r same in
        let eo : number (column r 1) ≡ owner_place o = e.0 in
        let ep : number (column r 2) ≡ p.0 = e.1.0 in
        let eb : number (column r 3) ≡ b.0 = e.1.1.0 in
        let ed : number (column r 4) ≡ direction_place d = ap number it.1.1.1.0 ∙ ap direction_place e.1.1.1 in
        tests given r it ∙ rw (eo, ep, eb, ed) (rw (same_number (owner_place o), same_number p.0, same_number b.0, same_number (direction_place d)) refl)

    passes_with : (r : Row) → IsEnergyRow r → pass given r ≡ at_key o p b d r
    passes_with r it = both_true (pass given r) (at_key o p b d r) (λ hit. (same_total-decides (total.Energy o p b d) (energy_in r)).1 (hits given r it hit)) (λ same. misses r it ((same_total-decides (total.Energy o p b d) (energy_in r)).0 same))

  pub passes_at : (r : Row) → IsEnergyRow r → passes r ≡ at_key o p b d r
  passes_at = passes_with []

abbrev table : Table
table = period_total_at 20

-- ---- a statement that changes this table alone
module _ (old new : State) (store : IsStore old.now) (ours : IsOurs new.now.schema) (shows : Shows old new new.now old.committed true) (edit : Edit) (it : Applies (ours_with only_one) (mode_of old).keys old.now.trees edit new.now.trees)
    (at : edit.table.tree ≡ 20) (others : AreElseSame only_one 20 old.now.trees new.now.trees) where
  payments : new.now.trees 13 ≡ old.now.trees 13
  payments = others.1.1.1.1.1.1.1.0 (λ e. absurd (omega (arith, e)))

  keeping : ((before : Trees) → AllByRecursion (IsOldEnergy before) (old.now.trees 20) → AllByRecursion (IsOldEnergy before) (new.now.trees 20)) → StillKeeps old.now.trees new.now.trees
  keeping kept = keeps_rows only_one _ old.now.trees new.now.trees edit it (omega (arith, at)) (omega (arith, at)) kept (λ before all. subst (AllByRecursion (IsOldPayment before)) (sym payments) all)

  makes : (o : Option AccountId) (p : PeriodId) (b : BandId) (d : Direction) (v : Option ℕ) → AreKeyed IsEnergyRow energy_in (new.now.trees 20) → ((l : TotalKey) → energy_told (new.now.trees 20) l ≡ cond (same_total (total.Energy o p b d) l) v (energy_told (old.now.trees 20) l))
      → ((before : Trees) → AllByRecursion (IsOldEnergy before) (old.now.trees 20) → AllByRecursion (IsOldEnergy before) (new.now.trees 20)) → Makes (λ c. with_total c (total.Energy o p b d) (unwrap_or v 0)) old new
  makes o p b d v keyed told kept = makes_total old new 20 (omega arith) (inr (omega arith)) others store ours (keeping kept) shows (total.Energy o p b d) (unwrap_or v 0)
      keyed (subst (AreKeyed IsPaymentRow payment_in) (sym payments) store.payments) (energies_with old.now.trees new.now.trees o p b d v payments told)

  nothing_made : new.now.trees 20 ≡ old.now.trees 20 → Makes (λ c. c) old new
  nothing_made same = makes_nothing old new 20 (omega arith) (inr (omega arith)) others store ours (keeping (λ before all. subst (AllByRecursion (IsOldEnergy before)) (sym same) all)) shows same payments

-- ---- rows of which none has the key, and a row with it
module _ (o : Option AccountId) (p : PeriodId) (b : BandId) (d : Direction) (v : ℕ) (id : ℤ) where
  abbrev row : Row
  row = Int id ∷ energy_row o p b d v

  key_is : energy_in row ≡ total.Energy o p b d
  key_is = λ j. total.Energy (owner_back o j) p b (direction_back d j)

  module _ (rows : List Row) (unseen : find (at_key o p b d) rows ≡ None) (free : is_taken rows row ≡ false) where
    keyed_with : AreKeyed IsEnergyRow energy_in rows → AreKeyed IsEnergyRow energy_in (put_row row rows)
    keyed_with keyed = keyed_put same_total same_total-decides energy_in amount_in IsEnergyRow (total.Energy o p b d) row rows key_is (refl, (refl, (refl, (ap (λ (e : Direction). Int (pos (direction_place e))) (sym (direction_back d)), refl)))) refl free unseen keyed

    told_with : (l : TotalKey) → energy_told (put_row row rows) l ≡ cond (same_total (total.Energy o p b d) l) (Some v) (energy_told rows l)
    told_with l = put_told same_total same_total-decides energy_in amount_in (total.Energy o p b d) l row rows key_is free unseen

  -- what UPDATE makes of a row with the key
  made_is : (r : Row) → IsEnergyRow r → rowid r ≡ Int id → total.Energy o p b d ≡ energy_in r → cast_row (uncounted table) (column r 0 ∷ column r 1 ∷ column r 2 ∷ column r 3 ∷ column r 4 ∷ Int (pos v) ∷ []) ≡ row
  made_is r it known same =
      let e = key_columns o p b d r same in
      made _ _ _ _ _ known (it.0 ∙ ap (λ n. Int (pos n)) e.0) (it.1.0 ∙ ap (λ n. Int (pos n)) e.1.0) (it.1.1.0 ∙ ap (λ n. Int (pos n)) e.1.1.0) (it.1.1.1.0 ∙ ap (λ (x : Direction). Int (pos (direction_place x))) e.1.1.1)
    where
      made : (x0 x1 x2 x3 x4 : Value) → x0 ≡ Int id → x1 ≡ Int (pos (owner_place o)) → x2 ≡ Int (pos p.0) → x3 ≡ Int (pos b.0) → x4 ≡ Int (pos (direction_place d)) → cast_row (uncounted table) (x0 ∷ x1 ∷ x2 ∷ x3 ∷ x4 ∷ Int (pos v) ∷ []) ≡ row
      made x0 x1 x2 x3 x4 e0 e1 e2 e3 e4 = rw (e0, e1, e2, e3, e4) (rw (cast_rowid id, cast_int (owner_place o), cast_int p.0, cast_int b.0, cast_int (direction_place d), cast_int v) refl)

-- ---- DELETE
module _ (old new : State) (o : Option AccountId) (p : PeriodId) (b : BandId) (d : Direction) (count : ℕ) (store : IsStore old.now) (inside : IsTrue old.in_transaction) (h : Executes delete_total_text (params o p b d) old new (Ok count)) where
  deleted : HasDeleted table delete_total_query.filter (params o p b d) old new
  deleted = deletes delete_total_text 11 (params o p b d) old new store.ours count h table delete_total_query.filter delete_total_is (λ out does. does) (λ _. refl)

  left : new.now.trees 20 ≡ filter (λ row. not (at_key o p b d row)) (old.now.trees 20)
  left = others_left table delete_total_query.filter (params o p b d) IsEnergyRow (at_key o p b d) (passes_at o p b d) energy_in old new deleted store.energies

  takes : Makes (λ c. with_total c (total.Energy o p b d) 0) old new
  takes = makes old new store deleted.0 (edit_inside false delete_total_text 11 delete_total_query delete_total_is old new store.ours (params o p b d) count h inside) _ deleted.1.2 refl deleted.1.2.tables o p b d None
      (subst (AreKeyed IsEnergyRow energy_in) (sym left) (keyed_gone same_total same_total-decides energy_in amount_in IsEnergyRow (total.Energy o p b d) (old.now.trees 20) store.energies))
      (λ l. ap (λ rows. energy_told rows l) left ∙ gone_told same_total same_total-decides energy_in amount_in (total.Energy o p b d) l (old.now.trees 20))
      (λ before all. fewer (IsOldEnergy before) (λ row. not (at_key o p b d row)) (old.now.trees 20) (new.now.trees 20) left all)

-- ---- UPDATE
module _ (old new : State) (o : Option AccountId) (p : PeriodId) (b : BandId) (d : Direction) (v : ℕ) (count : ℕ) (above : 0 < v) (store : IsStore old.now) (inside : IsTrue old.in_transaction) (h : Executes set_total_text (energy_row o p b d v) old new (Ok count)) where
  abbrev given : Row
  given = energy_row o p b d v

  set : HasSet table delete_total_query.filter set_total_terms given count old new
  set = sets set_total_text 11 given old new store.ours count h table delete_total_query.filter set_total_terms set_total_is (λ out does. does) (λ _ _. refl)

  outcome : IsSet table delete_total_query.filter set_total_terms given IsEnergyRow (at_key o p b d) (passes_with o p b d (Int (pos v) ∷ [])) (old.now.trees 20) (new.now.trees 20) count
  outcome = set_or_not table delete_total_query.filter set_total_terms given IsEnergyRow (at_key o p b d) (passes_with o p b d (Int (pos v) ∷ [])) energy_in (total.Energy o p b d)
      (λ r at. sym ((same_total-decides (total.Energy o p b d) (energy_in r)).0 at)) old new count set store.energies

  shown : Shows old new new.now old.committed true
  shown = edit_inside true set_total_text 11 set_total_query set_total_is old new store.ours given count h inside

  abbrev gone : List Row
  gone = filter (λ row. not (at_key o p b d row)) (old.now.trees 20)

  -- where a row had the key
  one_made : (id : ℤ) → is_taken gone (row o p b d v id) ≡ false → new.now.trees 20 ≡ put_row (row o p b d v id) gone → Makes (λ c. with_total c (total.Energy o p b d) v) old new
  one_made id free put =
      let unseen = find_gone (at_key o p b d) (old.now.trees 20) in
      let keyed = keyed_gone same_total same_total-decides energy_in amount_in IsEnergyRow (total.Energy o p b d) (old.now.trees 20) store.energies in
      makes old new store set.0 shown _ set.1.2 refl set.1.2.tables o p b d (Some v)
      (subst (AreKeyed IsEnergyRow energy_in) (sym put) (keyed_with o p b d v id gone unseen free keyed))
      (λ l. ap (λ rows. energy_told rows l) put ∙ told_with o p b d v id gone unseen free l
      ∙ ap (cond (same_total (total.Energy o p b d) l) (Some v)) (gone_told same_total same_total-decides energy_in amount_in (total.Energy o p b d) l (old.now.trees 20))
      ∙ once_more (same_total (total.Energy o p b d) l) (Some v) None (energy_told (old.now.trees 20) l))
      (λ before all. more (IsOldEnergy before) (row o p b d v id) gone (new.now.trees 20) put (λ none. absurd (omega (arith, above, none))) (all-filter (IsOldEnergy before) (λ row. not (at_key o p b d row)) (old.now.trees 20) all))

  set_made : Makes (changed (SetTotal (total.Energy o p b d) v) count) old new
  set_made = elim outcome [
    | inl none ↦ subst (λ n. Makes (changed (SetTotal (total.Energy o p b d) v) n) old new) (sym none.0) (nothing_made old new store set.0 shown _ set.1.2 refl set.1.2.tables none.2)
    | inr one ↦ (let same = made_is o p b d v (id_in (rowid one.0)) one.0 one.2 one.3 ((same_total-decides (total.Energy o p b d) (energy_in one.0)).0 one.4) in
        subst (λ n. Makes (changed (SetTotal (total.Energy o p b d) v) n) old new) (sym one.1)
        (one_made (id_in (rowid one.0)) (subst (λ r. is_taken gone r ≡ false) same one.5) (subst (λ r. new.now.trees 20 ≡ put_row r gone) same one.6)))
  ]

  set_taken : count ≡ 0 → energy_told (new.now.trees 20) (total.Energy o p b d) ≡ None
  set_taken few = elim outcome [
    | inl none ↦ ap (option_map amount_in) (ap (find (at_key o p b d)) none.2 ∙ none.1)
    | inr one ↦ absurd (let bad = one.1 in omega (arith, bad, few))
  ]

-- ---- INSERT
module _ (old new : State) (o : Option AccountId) (p : PeriodId) (b : BandId) (d : Direction) (v : ℕ) (it : PutsEnergy (energy_row o p b d v) old new) where
  abbrev new_row : Row
  new_row = row o p b d v (next_rowid (old.now.trees 20))

  free : is_taken (old.now.trees 20) new_row ≡ false
  free = let fresh = rw cast_null at it.applied.fresh in was_not _ (first _ _ fresh)

  put : new.now.trees 20 ≡ put_row new_row (old.now.trees 20)
  put = it.applied.rows ∙ rw (cast_null, cast_int (owner_place o), cast_int p.0, cast_int b.0, cast_int (direction_place d), cast_int v) refl

  -- the total that it tells
  pub told_more : IsInserted (total.Energy o p b d, v) (energies_in old.now.trees) (energies_in new.now.trees)
  told_more =
      let told : total_in_row Energies new_row ≡ (total.Energy o p b d, v) = ap (λ (k : TotalKey). (k, v)) (key_is o p b d v (next_rowid (old.now.trees 20))) in
      let at = subst (λ t. IsInserted t (energies_in old.now.trees) (map (total_in_row Energies) (put_row new_row (old.now.trees 20)))) told (put_inserts (total_in_row Energies) new_row (old.now.trees 20) free) in
      subst (λ rows. IsInserted (total.Energy o p b d, v) (energies_in old.now.trees) (map (total_in_row Energies) rows)) (sym put) at

  module _ (above : 0 < v) (store : IsStore old.now) (none : energy_told (old.now.trees 20) (total.Energy o p b d) ≡ None) where
    unseen : find (at_key o p b d) (old.now.trees 20) ≡ None
    unseen = none_found amount_in (find (at_key o p b d) (old.now.trees 20)) none

    puts : Makes (λ c. with_total c (total.Energy o p b d) v) old new
    puts = makes old new store it.ours it.shows _ it.applied refl it.applied.tables o p b d (Some v)
        (subst (AreKeyed IsEnergyRow energy_in) (sym put) (keyed_with o p b d v (next_rowid (old.now.trees 20)) (old.now.trees 20) unseen free store.energies))
        (λ l. ap (λ rows. energy_told rows l) put ∙ told_with o p b d v (next_rowid (old.now.trees 20)) (old.now.trees 20) unseen free l)
        (λ before all. more (IsOldEnergy before) new_row (old.now.trees 20) (new.now.trees 20) put (λ none. absurd (omega (arith, above, none))) all)

-- ---- whether it answered Ok or not
module _ (old new : State) (o : Option AccountId) (p : PeriodId) (b : BandId) (d : Direction) where
  pub takes_if : (r : Result ℕ Error) → IsStore old.now → IsTrue old.in_transaction → Executes delete_total_text (params o p b d) old new r → OnOk r (Makes (λ c. with_total c (total.Energy o p b d) 0) old new)
  takes_if (Ok n) store inside h = takes old new o p b d n store inside h
  takes_if (Err e) store inside h = tt

  module _ (v : ℕ) (above : 0 < v) where
    pub sets_if : (r : Result ℕ Error) → IsStore old.now → IsTrue old.in_transaction → Executes set_total_text (energy_row o p b d v) old new r → IfOk r (λ n. Makes (changed (SetTotal (total.Energy o p b d) v) n) old new)
    sets_if (Ok n) store inside h = set_made old new o p b d v n above store inside h
    sets_if (Err e) store inside h = tt

    pub none_set_if : (r : Result ℕ Error) → IsStore old.now → IsTrue old.in_transaction → Executes set_total_text (energy_row o p b d v) old new r → IfOk r (λ n. n ≡ 0 → energy_told (new.now.trees 20) (total.Energy o p b d) ≡ None)
    none_set_if (Ok n) store inside h = set_taken old new o p b d v n above store inside h
    none_set_if (Err e) store inside h = tt

    pub puts_if : (r : Result ℕ Error) → IsStore old.now → energy_told (old.now.trees 20) (total.Energy o p b d) ≡ None → OnOk r (PutsEnergy (energy_row o p b d v) old new) → OnOk r (Makes (λ c. with_total c (total.Energy o p b d) v) old new)
    puts_if (Ok n) store none it = puts old new o p b d v it above store none
    puts_if (Err e) store none it = tt

  pub row_put_if : (v : ℕ) (r : Result ℕ Error) → IsOurs old.now.schema → IsTrue old.in_transaction → Executes insert_total_text (energy_row o p b d v) old new r → OnOk r (PutsEnergy (energy_row o p b d v) old new)
  row_put_if v (Ok n) ours inside h =
      let given = energy_row o p b d v in
      let inserted : HasInserted table (Null ∷ given) old new = inserts insert_total_text 11 given old new ours n h table 6 five_terms (Null ∷ given) insert_total_is (λ out does. does) (λ _. refl) refl in
      record {
        ours = inserted.0;
        applied = inserted.1;
        shows = insert_inside insert_total_text 11 6 five_terms insert_total_is old new ours given n h inside;
      }
  row_put_if v (Err e) ours inside h = tt
