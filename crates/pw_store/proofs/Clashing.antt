-- What an INSERT tells of the keys of its rows: where it is refused for them nothing has changed, and where it isn't no
-- row had them.
use Rattle.std.proofs.Common.{◌≡◌, inl, inr, ℕ, ℤ, List, [], ◌∷◌, find, Bool, true, false, not, ◌&&◌, ◌||◌, None, Ok, Err, Result, IfErr, IfOk, OnErr, ◌⊎◌, IsTrue, refl, sym, ap, subst, ◌∙◌, Ordering, Less, Equal, Greater}
use Rattle.std.proofs.lemmas.Bool.{cases_Bool}
use Rattle.std.specs.List.{AllByRecursion, list_any}
use Rattle.std.specs.Ordering.{is_eq}
use Rattle.sqlite_trees.specs.declared.error.StoreError.{StoreError}
use Rattle.sqlite_trees.specs.declared.error.StoreError.TheVariants.{OutOfMemory, Io, Corrupt, Full, Broken, Unstorable}
use Rattle.sqlite_value.specs.declared.keys.Order.{Order}
use Rattle.sqlite_schema.specs.Rules.{agree, clashes, differ}
use Rattle.sqlite.specs.declared.types.Value.TheVariants.{Int}
use Rattle.sqlite.specs.declared.error.Error.{Error}
use Rattle.sqlite.specs.Order.{Row, value_cmp}
use Rattle.sqlite.specs.Tree.{put_row, rowid}
use Rattle.sqlite.specs.Edit.{are_fresh, is_taken, id_in, put_all}
use Rattle.sqlite.specs.Effect.{Database}
use Rattle.sqlite.specs.State.{State, ExecutesIn, Executes, Fails, IsNotRun, IsRolledBack, IsUnchanged, shows_rows, store_error}
use Rattle.pw_model.specs.Shelf.{ShelfContent}
use Rattle.pw_schema.specs.Calls.{Writes}
use Rattle.pw_store.specs.Content.{content_of}
use Rattle.pw_store.specs.Keyed.{HasRowid}
use Rattle.pw_store.specs.Kept.{IsStore}
use Rattle.pw_store.specs.Left.{Keeps}
use Rattle.pw_store.specs.inner.Changing.{Makes, refuses_key}
use Rattle.pw_store.proofs.Adding.{was_not}
use Rattle.pw_store.proofs.Finding.{first, second}
use Rattle.pw_store.proofs.Placing.{not_first, not_second}
use Rattle.pw_store.proofs.Scans.{differ_ints}

-- ---- refused
-- no failure of the store is told so
stored : (cause : StoreError) → refuses_key (store_error cause) ≡ false
stored OutOfMemory = refl
stored Io = refl
stored Corrupt = refl
stored Full = refl
stored Broken = refl
stored Unstorable = refl

module _ (old new : State) (sql : List ℕ) (params : Row) (e : Error) (refuses : refuses_key e ≡ true) where
  not_failed : (T : Type 0) → Fails old new T e → ⊥
  not_failed T f = let bad : true ≡ false = sym refuses ∙ ap refuses_key f.1 ∙ stored f.0 in cc

  not_run : IsNotRun old new sql params e → IsUnchanged old new
  unfolding IsNotRun
  not_run (inl same) = same.1
  not_run (inr f) = absurd (not_failed _ f)

  pub refused_same : Executes sql params old new (Err e) → IsUnchanged old new
  unfolding ExecutesIn
  refused_same (inl none) = not_run none
  refused_same (inr h) = elim (cases_Bool (shows_rows false h.0)) [
    | inl shows ↦ (rw shows at h.2).1
    | inr runs ↦ elim (rw runs at h.2) [
      | inl refused ↦ refused.1
      | inr f ↦ absurd (not_failed _ f)
    ]
  ]

-- so the upload goes on
pub same_makes : (old new : State) → IsStore old.now → IsTrue old.in_transaction → IsUnchanged old new → Makes (λ c. c) old new
same_makes old new store inside same = record {
  store = subst IsStore (sym same.0.now_is) store;
  keeps = λ before kept. subst (λ (d : Database). Keeps before d.trees) (sym same.0.now_is) kept;
  content = ap (λ (d : Database). content_of d.trees) same.0.now_is;
  shows = record { was_open = same.0.was_open; is_open = same.0.is_open; now_is = refl; committed_is = same.0.committed_is; mode = same.0.mode ∙ inside };
}

-- no row was put, where the key of one was taken; and else the fault is told
module _ (e : Error) (r : Result ℕ Error) (taken : refuses_key e ≡ true → r ≡ Ok 0) (other : refuses_key e ≡ false → r ≡ Err e) where
  pub none_refuses : IfErr r (λ f. refuses_key f ≡ false)
  none_refuses = elim (cases_Bool (refuses_key e)) [
    | inl up ↦ subst (λ s. IfErr s (λ f. refuses_key f ≡ false)) (sym (taken up)) tt
    | inr down ↦ subst (λ s. IfErr s (λ f. refuses_key f ≡ false)) (sym (other down)) down
  ]

  pub none_makes : (old new : State) (sql : List ℕ) (params : Row) (made : ℕ → ShelfContent → ShelfContent) → made 0 ≡ (λ c. c) → IsStore old.now → IsTrue old.in_transaction → Executes sql params old new (Err e) → IfOk r (λ n. Makes (made n) old new)
  none_makes old new sql params made none store inside h = elim (cases_Bool (refuses_key e)) [
    | inl up ↦ subst (λ s. IfOk s (λ n. Makes (made n) old new)) (sym (taken up)) (subst (λ m. Makes m old new) (sym none) (same_makes old new store inside (refused_same old new sql params e up h)))
    | inr down ↦ subst (λ s. IfOk s (λ n. Makes (made n) old new)) (sym (other down)) tt
  ]

  pub none_writes : (old new : State) → Writes {T = ℕ} (Err e) old new → Writes r old new
  none_writes old new it = record {
    failed = λ clean. elim (cases_Bool (refuses_key e)) [
      | inl up ↦ subst (λ s. OnErr s (IsUnchanged old new ⊎ IsRolledBack old new)) (sym (taken up)) tt
      | inr down ↦ subst (λ s. OnErr s (IsUnchanged old new ⊎ IsRolledBack old new)) (sym (other down)) (it.failed clean)
    ];
    crash = it.crash;
  }

-- ---- put
-- what is so of all rows is so of the one that was put
pub of_new : (P : Row → Type 0) (new : Row) (rows : List Row) → AllByRecursion P (put_row new rows) → P new
of_new P new [] all = all.0
of_new P new (r ∷ rows) all = go (of_new P new rows) (value_cmp (rowid r) (rowid new)) refl
  where
    go : (AllByRecursion P (put_row new rows) → P new) → (o : Ordering) → value_cmp (rowid r) (rowid new) ≡ o → P new
    go more Less e = more (rw e at all).1
    go more Equal e = (rw e at all).0
    go more Greater e = (rw e at all).0

-- what no row is, none of the others is
none_beside : (p : Row → Bool) (new : Row) (rows : List Row) → is_taken rows new ≡ false → list_any p (put_row new rows) ≡ false → list_any p rows ≡ false
none_beside p new [] free none = refl
none_beside p new (r ∷ rows) free none = go (none_beside p new rows (not_second _ _ free)) (value_cmp (rowid r) (rowid new)) refl
  where
    go : (list_any p (put_row new rows) ≡ false → list_any p rows ≡ false) → (o : Ordering) → value_cmp (rowid r) (rowid new) ≡ o → list_any p (r ∷ rows) ≡ false
    go more Less e = let was : (p r || list_any p (put_row new rows)) ≡ false = rw e at none in rw (not_first (p r) _ was) (more (not_second (p r) _ was))
    go more Equal e = absurd (let bad : true ≡ false = rw e at (not_first (is_eq (value_cmp (rowid r) (rowid new))) (is_taken rows new) free) in cc)
    go more Greater e = let was : (p new || list_any p (r ∷ rows)) ≡ false = rw e at none in not_second (p new) _ was

-- what none of the rows is at the end, none was before others were put; and what is so of all at the end, was of all
pub none_earlier : (p : Row → Bool) (news rows : List Row) → are_fresh rows news ≡ true → list_any p (put_all rows news) ≡ false → list_any p rows ≡ false
none_earlier p [] rows fresh none = none
none_earlier p (new ∷ news) rows fresh none = none_beside p new rows (was_not _ (first _ _ fresh)) (none_earlier p news (put_row new rows) (second _ _ fresh) none)

all_beside : (P : Row → Type 0) (new : Row) (rows : List Row) → is_taken rows new ≡ false → AllByRecursion P (put_row new rows) → AllByRecursion P rows
all_beside P new [] free all = tt
all_beside P new (r ∷ rows) free all = go (all_beside P new rows (not_second _ _ free)) (value_cmp (rowid r) (rowid new)) refl
  where
    go : (AllByRecursion P (put_row new rows) → AllByRecursion P rows) → (o : Ordering) → value_cmp (rowid r) (rowid new) ≡ o → AllByRecursion P (r ∷ rows)
    go more Less e = let was = rw e at all in (was.0, more was.1)
    go more Equal e = absurd (let bad : true ≡ false = rw e at (not_first (is_eq (value_cmp (rowid r) (rowid new))) (is_taken rows new) free) in cc)
    go more Greater e = (rw e at all).1

pub all_earlier : (P : Row → Type 0) (news rows : List Row) → are_fresh rows news ≡ true → AllByRecursion P (put_all rows news) → AllByRecursion P rows
all_earlier P [] rows fresh all = all
all_earlier P (new ∷ news) rows fresh all = all_beside P new rows (was_not _ (first _ _ fresh)) (all_earlier P news (put_row new rows) (second _ _ fresh) all)

one_of_two : (a b : Bool) → (a && b) ≡ false → b ≡ true → a ≡ false
one_of_two true b none up = absurd (let bad : true ≡ false = sym up ∙ none in cc)
one_of_two false b none up = refl

-- where the rows that agree with the new one at the places of an index are those with its key
module _ (o : Order) (places : List ℕ) (n : ℤ) (given : Row) (at_key : Row → Bool) where
  abbrev new : Row
  new = Int n ∷ given

  abbrev agrees : Row → Bool
  agrees r = agree o places r places new

  abbrev meets : Row → Bool
  meets r = agrees r && differ (rowid r) (rowid new)

  away : (r : Row) → HasRowid r → is_eq (value_cmp (rowid r) (rowid new)) ≡ false → differ (rowid r) (rowid new) ≡ true
  away r id apart = ap (λ v. differ v (Int n)) id ∙ differ_ints (id_in (rowid r)) n ∙ ap not (ap (λ v. is_eq (value_cmp v (Int n))) (sym id) ∙ apart)

  unmet : (rows : List Row) → AllByRecursion (λ r. agrees r ≡ at_key r) rows → AllByRecursion HasRowid rows → is_taken rows new ≡ false → list_any meets rows ≡ false → find at_key rows ≡ None
  unmet [] same ids free none = refl
  unmet (r ∷ rows) same ids free none =
      let miss : at_key r ≡ false = sym same.0 ∙ one_of_two _ _ (not_first _ _ none) (away r ids.0 (not_first _ _ free)) in
      rw miss (unmet rows same.1 ids.1 (not_second _ _ free) (not_second _ _ none))

  pub key_free : (rows : List Row) → AllByRecursion (λ r. agrees r ≡ at_key r) rows → AllByRecursion HasRowid rows → is_taken rows new ≡ false → clashes o places (put_row new rows) new ≡ false → find at_key rows ≡ None
  key_free rows same ids free none = unmet rows same ids free (none_beside meets new rows free none)
